-- What each call answers, with the state and the code buffer after it.
use Rattle.std.specs.Prelude.{◌+◌, ◌*◌, ◌/◌, ◌++◌}
use Rattle.basis.specs.Prelude.{ℕ, zero, suc, List, length, get_or, take, drop}
use Rattle.std.specs.Prelude.{ℤ, pos, ◌-ℤ◌, Option, Some, None, Result, Ok, Err}
use Rattle.basis.specs.Words.{pick}
use Rattle.basis.specs.Refusals.{Outcome, accepted, refused, is_accepted, needed, told}
use Rattle.basis.specs.declared.refusal.Refusal.{Refusal}
use Rattle.basis.specs.Upto.{upto}
use Rattle.sheet.specs.Legal.{row_at, legal}
use Rattle.sheet.specs.declared.row.Row.{Row}
use Rattle.sheet.specs.declared.row.Sheet.{Sheet}
use Rattle.records.specs.declared.record.Job.{Job}
use Rattle.machine.specs.States.{State, no_state, fresh_state, state_of, record_at}
use Rattle.records.specs.Records.{has_job}
use Rattle.machine.specs.Slot.{Given, next, code}
use Rattle.machine.specs.Checks.{check_slot, check_run, check_margin}

-- What `fresh` answers: its outcome, and the state, which stands by value or in a list.
pub record FreshAnswer (S : Type 0) : Type 0 where
  pub outcome : Outcome
  pub state : S

-- What a slot answers: its outcome, and the state and the code buffer after it.
pub record SlotAnswer (S : Type 0) : Type 0 where
  pub outcome : Outcome
  pub state : S
  pub codes : List ℕ

-- What a run answers: the slots done, its outcome, and the state and the code buffer after those slots.
pub record RunAnswer (S : Type 0) : Type 0 where
  pub done : ℕ
  pub outcome : Outcome
  pub state : S
  pub codes : List ℕ

-- The answers by their parts.
abbrev pub fresh_answer : {S : Type 0} → Outcome → S → FreshAnswer S
fresh_answer o t = record { outcome = o; state = t }

abbrev pub slot_answer : {S : Type 0} → Outcome → S → List ℕ → SlotAnswer S
slot_answer o t codes = record { outcome = o; state = t; codes = codes }

abbrev pub run_answer : {S : Type 0} → ℕ → Outcome → S → List ℕ → RunAnswer S
run_answer done o t codes = record { done = done; outcome = o; state = t; codes = codes }

-- Fresh checks 10; beside a refusal all records are zero.
unfoldable pub fresh : Sheet → FreshAnswer State
fresh h = fresh_answer (needed (legal h) 10) (pick (legal h) (fresh_state h) no_state)

-- What a slot is given by a sheet, a state and a release list.
unfoldable pub given : Sheet → State → List ℕ → Given
given h t releases =
    record { processors = h.processors; rows = row_at h; records = record_at t; releases = λ k. get_or releases k 0 }

-- The state after an accepted slot: the next record of each row, and those past them as they were.
unfoldable pub next_state : Sheet → State → List ℕ → State
next_state h t releases = state_of (upto h.count (next (given h t releases)) t.rows)

-- The code buffer after an accepted slot: the code of each row, and the bytes past them as they were.
unfoldable pub next_codes : Sheet → State → List ℕ → List ℕ → List ℕ
next_codes h t releases codes = upto h.count (code (given h t releases)) codes

-- The answer of a slot whose checks gave this outcome: the state and the codes that it makes, or those that it found.
abbrev pub slot_by : Outcome → State × List ℕ → State × List ℕ → SlotAnswer State
slot_by o (next, written) (t, codes) = slot_answer o (pick (is_accepted o) next t) (pick (is_accepted o) written codes)

-- One slot: where it is refused, the state is handed back as it came and no code is written.
unfoldable pub slot : Sheet → State → List ℕ → List ℕ → SlotAnswer State
slot h t releases codes =
    slot_by (check_slot h t releases (length codes)) (next_state h t releases, next_codes h t releases codes) (t, codes)

-- The entries of slot j, n to a slot.
abbrev pub entries_of : ℕ → ℕ → List ℕ → List ℕ
entries_of n j releases = take n (drop (j * n) releases)

-- Slot j of a list: on its own entries and its own part of the code buffer, with the codes of the slots before it in front.
unfoldable pub slot_at : Sheet → State → List ℕ → List ℕ → ℕ → SlotAnswer State
slot_at h t releases codes j =
    let a = slot h t (entries_of h.count j releases) (drop (j * h.count) codes) in
    slot_answer a.outcome a.state (take (j * h.count) codes ++ a.codes)

-- Slot j after a run so far, where nothing in it was refused: an accepted slot is done, a refused one is not.
unfoldable pub onward : Sheet → List ℕ → ℕ → RunAnswer State → RunAnswer State
onward h releases j c =
    let a = slot_at h c.state releases c.codes j in
    pick (is_accepted c.outcome) (run_answer (pick (is_accepted a.outcome) (c.done + 1) c.done) a.outcome a.state a.codes) c

-- So many slots one after another, to the first that is refused.
unfoldable pub course : Sheet → List ℕ → RunAnswer State → ℕ → RunAnswer State
course h releases c zero = c
course h releases c (suc j) = onward h releases j (course h releases c j)

-- A run: its checks, and then all slots of its list.
unfoldable pub run : Sheet → State → List ℕ → List ℕ → RunAnswer State
run h t releases codes = course h releases (run_answer 0 (check_run h t releases (length codes)) t codes) (length releases / h.count)

-- What is told of a row's margin: that there is no job, the margin, or a refusal.
pub data MarginAnswer : Type 0 where
  no_job : MarginAnswer
  margin_is : ℤ → MarginAnswer
  refused_margin : ℕ → ℕ → MarginAnswer

-- What each answer of `margin` stands for.
abbrev pub margin_answer : Result (Option ℤ) Refusal → MarginAnswer
margin_answer (Ok None) = no_job
margin_answer (Ok (Some z)) = margin_is z
margin_answer (Err r) = refused_margin (told r).0 (told r).1

-- D - since - remaining, signed.
unfoldable pub margin_of : Row → Job → ℤ
margin_of row j = (pos row.deadline -ℤ pos j.since) -ℤ pos j.remaining

-- A row without a job has no margin, which is not a margin of zero.
unfoldable pub margin_at : Row → Job → MarginAnswer
margin_at row j = pick (has_job j) (margin_is (margin_of row j)) no_job

-- The margin of a row whose checks gave this outcome.
abbrev pub margin_by : Outcome → MarginAnswer → MarginAnswer
margin_by accepted a = a
margin_by (refused number place) a = refused_margin number place

-- The margin of a row.
unfoldable pub margin : Sheet → State → ℕ → MarginAnswer
margin h t row = margin_by (check_margin h t row) (margin_at (row_at h row) (record_at t row).job)
