-- Wrong answers of the calls for other programs, each right but for one thing.
use Rattle.basis.specs.Prelude.{ℕ, List}
use Rattle.std.specs.Prelude.{ℤ, pos}
use Rattle.sheet.specs.Lists.{filled, sheet_cell}
use Rattle.reader.specs.Answers.{reading}
use Rattle.page.specs.Pages.{Page, written}
use Rattle.dashboard.specs.Texts.{verdict_text}
use Rattle.exports.specs.Answers.{verdict_in, read_in, label_answer, bounds_in, fresh_in, slot_on, run_on, margin_in}

-- A refusal is told as zeros.
abbrev pub told_zero : {A : Type 0} → (ℕ × ℕ) × A → (ℕ × ℕ) × A
told_zero (t, lent) = ((0, 0), lent)

-- A text that does not fit is cut off.
unfoldable pub verdict_cut : List ℕ → List ℕ → ℕ → (ℕ × ℕ) × Page
verdict_cut s text long = ((0, 0), written (verdict_text s) text)

-- How long a text is stays untold.
unfoldable pub verdict_untold : List ℕ → List ℕ → ℕ → (ℕ × ℕ) × Page
verdict_untold s text long = ((verdict_in s text long).0, ((verdict_in s text long).1.0, long))

-- A refused reading fills the list too.
unfoldable pub read_filled : List ℕ → List ℕ → (ℕ × ℕ) × List ℕ
read_filled s list = ((read_in s list).0, filled (sheet_cell (reading s).1) list)

-- Where a label starts is told as its length, and its length as where it starts.
unfoldable pub label_swapped : List ℕ → ℕ → ℕ × ℕ → (ℕ × ℕ) × (ℕ × ℕ)
label_swapped s row found = ((label_answer s row found).0, ((label_answer s row found).1.1, (label_answer s row found).1.0))

-- Every sheet is said to hold.
unfoldable pub bounds_hold : List ℕ → ℕ × List ℕ → (ℕ × ℕ) × (ℕ × List ℕ)
bounds_hold sheet lent = ((bounds_in sheet lent).0, (1, (bounds_in sheet lent).1.1))

-- An accepted fresh leaves the list as it was.
unfoldable pub fresh_list_kept : List ℕ → List ℕ → (ℕ × ℕ) × List ℕ
fresh_list_kept sheet list = ((fresh_in sheet list).0, list)

-- An accepted slot leaves the state's list as it came.
unfoldable pub slot_state_kept : List ℕ → List ℕ → List ℕ → List ℕ → (ℕ × ℕ) × (List ℕ × List ℕ)
slot_state_kept sheet list releases codes = ((slot_on sheet list releases codes).0, (list, (slot_on sheet list releases codes).1.1))

-- A run is told to have done one slot, however many it did.
unfoldable pub run_of_one : List ℕ → List ℕ → List ℕ → List ℕ → (ℕ × ℕ) × (ℕ × (List ℕ × List ℕ))
run_of_one sheet list releases codes = ((run_on sheet list releases codes).0, (1, (run_on sheet list releases codes).1.1))

-- A row without a job is told to have one.
unfoldable pub margin_with_job : List ℕ → List ℕ → ℕ → ℕ × ℤ → (ℕ × ℕ) × (ℕ × ℤ)
margin_with_job sheet list row lent = ((margin_in sheet list row lent).0, (1, (margin_in sheet list row lent).1.1))

-- A margin of zero is written where there is none.
unfoldable pub margin_of_zero : List ℕ → List ℕ → ℕ → ℕ × ℤ → (ℕ × ℕ) × (ℕ × ℤ)
margin_of_zero sheet list row lent = ((margin_in sheet list row lent).0, ((margin_in sheet list row lent).1.0, pos 0))
