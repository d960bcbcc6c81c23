-- What the reader of a slot, the reader and the writer of a scenario answer, and what they leave in the list and in the buffer.
use Rattle.std.specs.Prelude.{◌%◌, Result, Ok, Err}
use Rattle.basis.specs.Prelude.{ℕ, List, length, get_or, ltb, eqb}
use Rattle.basis.specs.Limits.{most_rows}
use Rattle.basis.specs.Words.{pick}
use Rattle.basis.specs.Refusals.{Outcome, accepted, refused, refused_by, first_of}
use Rattle.basis.specs.Readers.{Step, ok, refuse}
use Rattle.basis.specs.Lent.{Answer, nothing_by, put_all, written_by, written_told}
use Rattle.basis.specs.declared.refusal.Refusal.{Refusal}
use Rattle.sheet.specs.Legal.{legal}
use Rattle.sheet.specs.declared.row.Sheet.{Sheet}
use Rattle.scenario.specs.Form.{Held, budget_at, no_releases, slot, scenario}
use Rattle.scenario.specs.Written.{file_of}
use Rattle.scenario.specs.declared.slot.SlotRead.{SlotRead}

-- What reading one slot answers: its outcome, the place after the slot, and an entry for each row.
pub record FoundSlot : Type 0 where
  pub outcome : Outcome
  pub next : ℕ
  pub entries : List ℕ

abbrev pub found_slot : Outcome → ℕ → List ℕ → FoundSlot
found_slot o next entries = record { outcome = o; next = next; entries = entries }

-- What the code's answer stands for: the slot, or the refusal with place 0 and zeros beside it.
abbrev pub found_told : Result SlotRead Refusal → FoundSlot
found_told (Ok r) = found_slot accepted r.next r.entries
found_told (Err r) = found_slot (refused_by r) 0 (no_releases most_rows)

-- What is handed over: the slot, or the one refusal and zeros beside it.
abbrev pub slot_handed : Step (List ℕ) → FoundSlot
slot_handed (ok l n) = found_slot accepted n l
slot_handed (refuse number place) = found_slot (refused number place) 0 (no_releases most_rows)

-- The slot at a place: 10, then left to right. Entries past the rows are zero.
unfoldable pub read_slot : Sheet → List ℕ → ℕ → FoundSlot
read_slot h s at = slot_handed (pick (legal h) (slot h (no_releases most_rows) s at) (refuse 10 0))

-- What the code's answer stands for, with its list: as of what is written, so many slots, or the refusal and none.
abbrev pub read_told : Result ℕ Refusal → List ℕ → Answer
read_told = written_told

-- What was read into a list.
abbrev pub filled_by : Step Held → List ℕ → Answer
filled_by (ok x n) l = put_all x.slots x.entries l
filled_by (refuse number place) l = nothing_by (refused number place) l

-- The reader's answer: 10, then the file from left to right, then 15.
unfoldable pub read_scenario : Sheet → List ℕ → List ℕ → Answer
read_scenario h s l = pick (legal h) (filled_by (scenario h s 0) l) (nothing_by (refused 10 0) l)

-- 12 where an entry of row k is over this budget.
unfoldable pub over_budget : ℕ → ℕ → ℕ → Outcome
over_budget budget v k = pick (ltb budget v) (refused 12 k) accepted

-- Entry i of a list, by the row number.
unfoldable pub over_at : Sheet → List ℕ → ℕ → Outcome
over_at h l i = over_budget (budget_at h (i % h.count)) (get_or l i 0) (i % h.count)

-- 11 where the list does not hold whole slots, then 12 for the first entry of the list that is over.
unfoldable pub check_whole : Sheet → List ℕ → Outcome
check_whole h l = pick (eqb (length l % h.count) 0) (first_of (length l) (over_at h l)) (refused 11 0)

-- 10, 11, 12.
unfoldable pub check_list : Sheet → List ℕ → Outcome
check_list h l = pick (legal h) (check_whole h l) (refused 10 0)

-- The writer's answer: 10, 11, 12, then 15.
unfoldable pub write_scenario : Sheet → List ℕ → List ℕ → Answer
write_scenario h l out = written_by (check_list h l) (file_of h l) out
