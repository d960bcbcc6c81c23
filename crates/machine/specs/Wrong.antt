-- Wrong rules for a state, each that of 01 but for one thing, and the sheets, states and lists that tell them apart.
use Rattle.std.specs.Prelude.{◌%◌, ◌/◌, ◌∷◌}
use Rattle.basis.specs.Prelude.{ℕ, zero, suc, Bool, List, [], length, get_or, replicate, eqb}
use Rattle.std.specs.Prelude.{pos, ◌-ℤ◌}
use Rattle.basis.specs.Limits.{most_rows}
use Rattle.basis.specs.Words.{pick}
use Rattle.basis.specs.Refusals.{Outcome, accepted, or_else, first_of, needed, room_for}
use Rattle.basis.specs.Upto.{upto}
use Rattle.sheet.specs.Legal.{row_at, legal}
use Rattle.sheet.specs.declared.row.Sheet.{Sheet}
use Rattle.records.specs.declared.record.RowState.{RowState}
use Rattle.records.specs.Records.{record_of, no_record, has_job}
use Rattle.records.specs.Steps.{fits, worked, aged, ended, code_so_far, code_of}
use Rattle.records.specs.Wrong.{rec, thirteen_first, stops_at_unfit, missed_first}
use Rattle.machine.specs.States.{State, no_state, state_of, record_at, fresh_state}
use Rattle.machine.specs.Slot.{Given, begun, runs, next}
use Rattle.machine.specs.Checks.{check_state, check_room, check_slot, check_margin}
use Rattle.machine.specs.Answers.{FreshAnswer, SlotAnswer, RunAnswer, fresh_answer, slot_answer, run_answer, given, next_state, next_codes, slot_by, slot, course, run, MarginAnswer, no_job, margin_is, margin_at, margin_by, margin}
use Rattle.machine.specs.Lists.{put_state, cleared, fresh_on, slot_in, run_in}

-- ---- fresh

-- A fresh state in which row k has this record.
abbrev pub fresh_by : (Sheet → ℕ → RowState) → Sheet → FreshAnswer State
fresh_by f h = fresh_answer (needed (legal h) 10) (pick (legal h) (state_of (upto h.count (f h) (replicate most_rows no_record))) no_state)

-- A fresh row has a job of all its budget.
unfoldable pub fresh_with_jobs : Sheet → FreshAnswer State
fresh_with_jobs = fresh_by (λ h k. rec (row_at h k).budget (row_at h k).separation)

-- A fresh row has to wait for its separation.
unfoldable pub fresh_too_young : Sheet → FreshAnswer State
fresh_too_young = fresh_by (λ h k. rec 0 1)

-- ---- one slot

-- A slot by other rules: what each row becomes, and its code.
abbrev pub slot_with : (Given → ℕ → RowState) → (Given → ℕ → ℕ) → Sheet → State → List ℕ → List ℕ → SlotAnswer State
slot_with next code h t releases codes =
    slot_by (check_slot h t releases (length codes))
    (state_of (upto h.count (next (given h t releases)) t.rows), upto h.count (code (given h t releases)) codes) (t, codes)

-- A slot in which these rows run.
abbrev pub slot_running : (Given → ℕ → Bool) → Sheet → State → List ℕ → List ℕ → SlotAnswer State
slot_running ran =
    slot_with (λ g k. record_of (ended (g.rows k) (aged (g.rows k) (worked (ran g k) (begun g k)))))
    (λ g k. code_of (g.rows k) (ran g k) (begun g k) (aged (g.rows k) (worked (ran g k) (begun g k))))

-- The processors free at row k where nothing is free below a row that does not fit.
unfoldable pub free_to_unfit : Given → ℕ → ℕ
free_to_unfit g zero = g.processors
free_to_unfit g (suc k) = (stops_at_unfit (g.rows k) (begun g k) (free_to_unfit g k)).free

-- It stops at the first row that does not fit.
unfoldable pub slot_to_unfit : Sheet → State → List ℕ → List ℕ → SlotAnswer State
slot_to_unfit = slot_running (λ g k. fits (free_to_unfit g k) (g.rows k) (begun g k))

-- Every job runs: all processors are free at each row.
unfoldable pub slot_of_all : Sheet → State → List ℕ → List ℕ → SlotAnswer State
slot_of_all = slot_running (λ g k. fits g.processors (g.rows k) (begun g k))

-- A miss is judged before the finish of the same slot.
unfoldable pub slot_missed_first : Sheet → State → List ℕ → List ℕ → SlotAnswer State
slot_missed_first =
    slot_with next
    (λ g k. (missed_first (g.rows k) (worked (runs g k) (begun g k)) (code_so_far (runs g k) (begun g k))).code)

-- The state is handed back untouched.
unfoldable pub slot_untouched : Sheet → State → List ℕ → List ℕ → SlotAnswer State
slot_untouched h t releases codes = slot_answer (slot h t releases codes).outcome t (slot h t releases codes).codes

-- The releases are checked, and then lost.
unfoldable pub slot_unreleased : Sheet → State → List ℕ → List ℕ → SlotAnswer State
slot_unreleased h t releases codes = slot_by (check_slot h t releases (length codes)) (next_state h t [], next_codes h t [] codes) (t, codes)

-- A refused slot writes its codes.
unfoldable pub slot_codes_always : Sheet → State → List ℕ → List ℕ → SlotAnswer State
slot_codes_always h t releases codes =
    slot_by (check_slot h t releases (length codes)) (next_state h t releases, next_codes h t releases codes) (t, next_codes h t releases codes)

-- The checks of a slot, but 13 comes before 12.
unfoldable pub check_thirteen_first : Sheet → State → List ℕ → ℕ → Outcome
check_thirteen_first h t releases room =
    or_else (check_state h t)
    (or_else (check_room (eqb (length releases) h.count) (length releases) room)
    (first_of h.count (λ k. thirteen_first (row_at h k) (record_at t k) (get_or releases k 0) k)))

-- The checks of a slot, but the releases are not looked at.
unfoldable pub any_releases : Sheet → State → List ℕ → ℕ → Outcome
any_releases h t releases room =
    or_else (check_state h t) (check_room (eqb (length releases) h.count) (length releases) room)

-- 13 comes before 12.
unfoldable pub slot_thirteen_first : Sheet → State → List ℕ → List ℕ → SlotAnswer State
slot_thirteen_first h t releases codes =
    slot_by (check_thirteen_first h t releases (length codes)) (next_state h t releases, next_codes h t releases codes) (t, codes)

-- ---- a run

-- It works its first slot and only counts the rest.
unfoldable pub run_of_first : Sheet → State → List ℕ → List ℕ → RunAnswer State
run_of_first h t releases codes =
    record {
      done = length releases / h.count;
      outcome = (course h releases (run_answer 0 accepted t codes) 1).outcome;
      state = (course h releases (run_answer 0 accepted t codes) 1).state;
      codes = (course h releases (run_answer 0 accepted t codes) 1).codes;
    }

-- Its number of slots done is made up: it is that of the list, whatever was refused.
unfoldable pub run_made_up : Sheet → State → List ℕ → List ℕ → RunAnswer State
run_made_up h t releases codes =
    record {
      done = length releases / h.count;
      outcome = (run h t releases codes).outcome;
      state = (run h t releases codes).state;
      codes = (run h t releases codes).codes;
    }

-- It hands its state back untouched.
unfoldable pub run_untouched : Sheet → State → List ℕ → List ℕ → RunAnswer State
run_untouched h t releases codes =
    record {
      done = (run h t releases codes).done;
      outcome = (run h t releases codes).outcome;
      state = t;
      codes = (run h t releases codes).codes;
    }

-- The checks of a run, but 15 comes before 11.
unfoldable pub room_first : Sheet → State → List ℕ → ℕ → Outcome
room_first h t releases room =
    or_else (check_state h t) (or_else (room_for (length releases) room) (needed (eqb (length releases % h.count) 0) 11))

-- The checks of a run, but the state is not looked at.
unfoldable pub any_state : Sheet → State → List ℕ → ℕ → Outcome
any_state h t releases room =
    or_else (needed (legal h) 10) (check_room (eqb (length releases % h.count) 0) (length releases) room)

-- ---- the margin

-- A row without a job has a margin of zero.
unfoldable pub zero_for_none : Sheet → State → ℕ → MarginAnswer
zero_for_none h t row =
    margin_by (check_margin h t row) (pick (has_job (record_at t row).job) (margin_at (row_at h row) (record_at t row).job) (margin_is (pos 0)))

-- The slots since the release are not taken off.
unfoldable pub since_left_out : Sheet → State → ℕ → MarginAnswer
since_left_out h t row =
    margin_by (check_margin h t row)
    (pick (has_job (record_at t row).job) (margin_is (pos (row_at h row).deadline -ℤ pos (record_at t row).job.remaining)) no_job)

-- Whatever row is asked for, the margin is that of row 0.
unfoldable pub margin_of_first : Sheet → State → ℕ → MarginAnswer
margin_of_first h t row = margin h t 0

-- ---- on lists

-- Fresh, but the list is as it was.
unfoldable pub fresh_kept : Sheet → List ℕ → FreshAnswer (List ℕ)
fresh_kept h list = fresh_answer (fresh_on h list).outcome list

-- Fresh, but the room for it is not looked at.
unfoldable pub fresh_roomless : Sheet → List ℕ → FreshAnswer (List ℕ)
fresh_roomless h list = fresh_answer (needed (legal h) 10) (pick (legal h) (put_state h.count (fresh_state h) (cleared list)) list)

-- A slot, but the list is as it was.
unfoldable pub slot_list_kept : Sheet → List ℕ → List ℕ → List ℕ → SlotAnswer (List ℕ)
slot_list_kept h list releases codes = slot_answer (slot_in h list releases codes).outcome list (slot_in h list releases codes).codes

-- A slot, but the codes are as they were.
unfoldable pub slot_codes_kept : Sheet → List ℕ → List ℕ → List ℕ → SlotAnswer (List ℕ)
slot_codes_kept h list releases codes = slot_answer (slot_in h list releases codes).outcome (slot_in h list releases codes).state codes

-- A run, but the list is as it was.
unfoldable pub run_list_kept : Sheet → List ℕ → List ℕ → List ℕ → RunAnswer (List ℕ)
run_list_kept h list releases codes = run_answer (run_in h list releases codes).done (run_in h list releases codes).outcome list (run_in h list releases codes).codes

-- A run, but every slot of the list is said to be done.
unfoldable pub run_list_made_up : Sheet → List ℕ → List ℕ → List ℕ → RunAnswer (List ℕ)
run_list_made_up h list releases codes = run_answer (length releases / h.count) (run_in h list releases codes).outcome (run_in h list releases codes).state (run_in h list releases codes).codes

-- ---- what tells them apart

-- Sheet C as a list, and its fresh state.
abbrev pub list_c : List ℕ
list_c = 2 ∷ 2 ∷ 2 ∷ 2 ∷ 2 ∷ 1 ∷ 1 ∷ 4 ∷ 4 ∷ 3 ∷ []

abbrev pub fresh_list_c : List ℕ
fresh_list_c = 0 ∷ 2 ∷ 0 ∷ 4 ∷ []

-- A state of sheet C: one slot since a job of row 0, which is finished, and since a job of row 1 of which two slots remain.
abbrev pub busy_c : State
busy_c = state_of (upto 2 (λ k. pick (eqb k 0) (rec 0 1) (rec 2 1)) no_state.rows)
