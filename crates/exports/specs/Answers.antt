-- What each call for other programs answers: the number and the place of a refusal, or zeros, and every lent list and number afterwards.
use Rattle.basis.specs.Prelude.{ℕ, Bool, List, length, ltb}
use Rattle.std.specs.Prelude.{ℤ}
use Rattle.basis.specs.Lent as lent
use Rattle.basis.specs.Words.{pick}
use Rattle.basis.specs.Refusals.{Outcome, accepted, refused, or_else, needed, room_for, handed, is_accepted}
use Rattle.reader.specs.Answers.{reading, label_in}
use Rattle.sheet.specs.declared.row.Sheet.{Sheet}
use Rattle.bound.specs.Bound.{Answer, bounds_of}
use Rattle.bound.specs.Lists.{results_long, result_cell}
use Rattle.machine.specs.Answers.{FreshAnswer, SlotAnswer, RunAnswer, MarginAnswer, no_job, margin_is, refused_margin, margin}
use Rattle.page.specs.Pages.{Page, written}
use Rattle.dashboard.specs.Texts.{verdict_text}
use Rattle.sheet.specs.Lists.{filled, sheet_in, sheet_cell, sheet_long}
use Rattle.machine.specs.Lists.{state_in, fresh_on, slot_in, run_in}

-- A refusal's number and place; zeros where nothing is refused.
abbrev pub told : Outcome → ℕ × ℕ
told accepted = (0, 0)
told (refused number place) = (number, place)

-- What a call answers: its outcome is told, and beside a refusal all that was lent is as it was.
abbrev pub answered : {A : Type 0} → Outcome → A → A → (ℕ × ℕ) × A
answered o done found = (told o, (handed o done found).1)

-- What reading into a lent list or writing into a lent buffer tells: how many slots or bytes, and what was lent; beside a refusal both are as they were.
abbrev pub lent_told : lent.Answer → ℕ → (ℕ × ℕ) × (ℕ × List ℕ)
lent_told a found = (told a.outcome, (pick (is_accepted a.outcome) a.count found, a.lent))

-- Yes and no as numbers.
abbrev pub flag : Bool → ℕ
flag test = pick test 1 0

-- The verdict: its whole text at the start of the buffer, and how long it is.
unfoldable pub verdict_in : List ℕ → List ℕ → ℕ → (ℕ × ℕ) × Page
verdict_in s text long =
    answered (room_for (length (verdict_text s)) (length text)) (written (verdict_text s) text) (text, long)

-- The reader's fields: its refusals, then the room for the sheet.
unfoldable pub fields_in : Outcome × Sheet → List ℕ → (ℕ × ℕ) × List ℕ
fields_in (o, h) list = answered (or_else o (room_for (sheet_long h.count) (length list))) (filled (sheet_cell h) list) list

unfoldable pub read_in : List ℕ → List ℕ → (ℕ × ℕ) × List ℕ
read_in s list = fields_in (reading s) list

-- The label of a row: the reader's refusals, then 14; where it starts in the bytes, and how long it is.
abbrev pub label_outcome : Outcome × Sheet → ℕ → Outcome
label_outcome (o, h) row = or_else o (needed (ltb row h.count) 14)

unfoldable pub label_answer : List ℕ → ℕ → ℕ × ℕ → (ℕ × ℕ) × (ℕ × ℕ)
label_answer s row found = answered (label_outcome (reading s) row) ((label_in s row).start, (label_in s row).long) found

-- The bounds of a sheet's list: 10, then the room for a word and a bound for each row; whether the sheet holds, and the results.
unfoldable pub results_in : ℕ → Answer → ℕ × List ℕ → (ℕ × ℕ) × (ℕ × List ℕ)
results_in n (o, holds, ws) (found, list) =
    answered (or_else o (room_for (results_long n) (length list))) (flag holds, filled (result_cell ws) list) (found, list)

unfoldable pub bounds_in : List ℕ → ℕ × List ℕ → (ℕ × ℕ) × (ℕ × List ℕ)
bounds_in sheet lent = results_in (sheet_in sheet).count (bounds_of (sheet_in sheet)) lent

-- What a fresh answers, with its outcome told.
abbrev pub fresh_told : FreshAnswer (List ℕ) → (ℕ × ℕ) × List ℕ
fresh_told a = (told a.outcome, a.state)

-- The fresh state of a sheet's list: 10, then 15; the list afterwards.
unfoldable pub fresh_in : List ℕ → List ℕ → (ℕ × ℕ) × List ℕ
fresh_in sheet list = fresh_told (fresh_on (sheet_in sheet) list)

-- What a slot answers, with its outcome told.
abbrev pub slot_told : SlotAnswer (List ℕ) → (ℕ × ℕ) × (List ℕ × List ℕ)
slot_told a = (told a.outcome, (a.state, a.codes))

-- One slot: the state's list and the codes after it.
unfoldable pub slot_on : List ℕ → List ℕ → List ℕ → List ℕ → (ℕ × ℕ) × (List ℕ × List ℕ)
slot_on sheet list releases codes = slot_told (slot_in (sheet_in sheet) list releases codes)

-- What a run answers, with its outcome told.
abbrev pub run_told : RunAnswer (List ℕ) → (ℕ × ℕ) × (ℕ × (List ℕ × List ℕ))
run_told a = (told a.outcome, (a.done, (a.state, a.codes)))

-- A run: the slots done, the state's list after them, which is as it was where none is done, and the codes.
unfoldable pub run_on : List ℕ → List ℕ → List ℕ → List ℕ → (ℕ × ℕ) × (ℕ × (List ℕ × List ℕ))
run_on sheet list releases codes = run_told (run_in (sheet_in sheet) list releases codes)

-- The margin of a row: 1 and the margin where it has a job, 0 and no margin where it has none.
unfoldable pub margin_given : MarginAnswer → ℕ × ℤ → (ℕ × ℕ) × (ℕ × ℤ)
margin_given no_job (found, z) = ((0, 0), (0, z))
margin_given (margin_is d) (found, z) = ((0, 0), (1, d))
margin_given (refused_margin number place) (found, z) = ((number, place), (found, z))

unfoldable pub margin_in : List ℕ → List ℕ → ℕ → ℕ × ℤ → (ℕ × ℕ) × (ℕ × ℤ)
margin_in sheet list row lent = margin_given (margin (sheet_in sheet) (state_in list) row) lent
