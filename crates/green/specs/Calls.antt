-- Any list of calls with a sheet, from a fresh machine, and its accepted slots in one sequence.
use Rattle.std.specs.Prelude.{◌∷◌, ◌++◌}
use Rattle.basis.specs.Prelude.{ℕ, zero, suc, List, [], take}
use Rattle.basis.specs.Words.{pick}
use Rattle.basis.specs.Refusals.{is_accepted}
use Rattle.sheet.specs.declared.row.Sheet.{Sheet}
use Rattle.machine.specs.States.{State}
use Rattle.machine.specs.Answers.{SlotAnswer, fresh, slot, run, entries_of}

-- A call: one slot or a run, with any release list and any room for codes.
pub data Call : Type 0 where
  one_slot : List ℕ → List ℕ → Call
  a_run : List ℕ → List ℕ → Call

-- An accepted slot: the releases that it was given, and the codes that it wrote, one for each row.
pub record Done : Type 0 where
  pub releases : List ℕ
  pub codes : List ℕ

-- The one slot of a call that was accepted; of a refused one there is none.
abbrev pub slot_done : ℕ → List ℕ → SlotAnswer State → List Done
slot_done n releases a = pick (is_accepted a.outcome) (record { releases = releases; codes = take n a.codes } ∷ []) []

-- Slot j of a run: its own entries of the release list, and of the code buffer.
abbrev pub run_slot : ℕ → List ℕ → List ℕ → ℕ → Done
run_slot n releases codes j = record { releases = entries_of n j releases; codes = entries_of n j codes }

-- The first d slots of a run.
unfoldable pub run_done : ℕ → List ℕ → List ℕ → ℕ → List Done
run_done n releases codes zero = []
run_done n releases codes (suc d) = run_done n releases codes d ++ (run_slot n releases codes d ∷ [])

-- The accepted slots of a call: the one slot, or as many as the run says were done.
abbrev pub slots_of : Sheet → State → Call → List Done
slots_of h t (one_slot releases codes) = slot_done h.count releases (slot h t releases codes)
slots_of h t (a_run releases codes) = run_done h.count releases (run h t releases codes).codes (run h t releases codes).done

-- The state after a call.
abbrev pub state_after : Sheet → State → Call → State
state_after h t (one_slot releases codes) = (slot h t releases codes).state
state_after h t (a_run releases codes) = (run h t releases codes).state

-- The accepted slots of some calls, one after another.
unfoldable pub history : Sheet → State → List Call → List Done
history h t [] = []
history h t (c ∷ cs) = slots_of h t c ++ history h (state_after h t c) cs

-- The state after some calls.
unfoldable pub state_after_all : Sheet → State → List Call → State
state_after_all h t [] = t
state_after_all h t (c ∷ cs) = state_after_all h (state_after h t c) cs

-- The state that `fresh` hands over.
abbrev pub fresh_of : Sheet → State
fresh_of h = (fresh h).state
