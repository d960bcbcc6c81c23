-- The checks of each call, in their order: the number and the place of the first that fails.
use Rattle.std.specs.Prelude.{◌%◌}
use Rattle.basis.specs.Prelude.{ℕ, Bool, List, length, get_or, ltb, eqb}
use Rattle.basis.specs.Refusals.{Outcome, or_else, first_of, needed, room_for}
use Rattle.sheet.specs.Legal.{row_at, legal}
use Rattle.sheet.specs.declared.row.Sheet.{Sheet}
use Rattle.records.specs.Checks.{check_row}
use Rattle.machine.specs.States.{State, record_at, legal_state}

-- The check of row k's release.
abbrev pub check_at : Sheet → State → List ℕ → ℕ → Outcome
check_at h t releases k = check_row (row_at h k) (record_at t k) (get_or releases k 0) k

-- The checks of the releases, from the top.
unfoldable pub check_releases : Sheet → State → List ℕ → Outcome
check_releases h t releases = first_of h.count (check_at h t releases)

-- 10, then 16: what is checked of a sheet and a state.
unfoldable pub check_state : Sheet → State → Outcome
check_state h t = or_else (needed (legal h) 10) (needed (legal_state h t) 16)

-- 11 where the list is not as long as it has to be, then 15 where the code buffer is shorter than the list.
unfoldable pub check_room : Bool → ℕ → ℕ → Outcome
check_room long entries room = or_else (needed long 11) (room_for entries room)

-- A slot's checks: 10, 16, 11, 15, then rows from the top.
unfoldable pub check_slot : Sheet → State → List ℕ → ℕ → Outcome
check_slot h t releases room =
    or_else (check_state h t)
    (or_else (check_room (eqb (length releases) h.count) (length releases) room) (check_releases h t releases))

-- A run's checks before its first slot: 10, 16, 11, 15.
unfoldable pub check_run : Sheet → State → List ℕ → ℕ → Outcome
check_run h t releases room =
    or_else (check_state h t) (check_room (eqb (length releases % h.count) 0) (length releases) room)

-- The margin's checks: 10, 16, 14.
unfoldable pub check_margin : Sheet → State → ℕ → Outcome
check_margin h t row = or_else (check_state h t) (needed (ltb row h.count) 14)
