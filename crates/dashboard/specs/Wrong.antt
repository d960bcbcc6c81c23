-- Wrong rules of the texts and the buffers, each the rule of document 01 but for one thing, and the sheets that tell them.
use Rattle.std.specs.Prelude.{◌-◌, ◌/◌, ◌∷◌, ◌++◌}
use Rattle.basis.specs.Prelude.{ℕ, zero, suc, Bool, true, List, [], replicate}
use Rattle.basis.specs.Refusals.{Outcome, accepted, refused}
use Rattle.reader.specs.Answers.{reading}
use Rattle.sheet.specs.declared.row.Sheet.{Sheet}
use Rattle.bound.specs.Test.{passes}
use Rattle.bound.specs.Bound.{Word, bound, none, unreached, result_of, holds}
use Rattle.tables.specs.Tables.{fixed_sheet}
use Rattle.dashboard.specs.Words.{newline, ending, no_verdict}
use Rattle.dashboard.specs.Labels.{own_label, numbered}
use Rattle.dashboard.specs.Texts.{lines, board, fixed_count, letter, prefix, sections}
use Rattle.dashboard.specs.Longest.{input_size, text_size}
use Rattle.dashboard.specs.Cases.{roll_and_trim}

-- The text of a sheet with other labels, results and last line.
unfoldable pub board_by : (ℕ → List ℕ) → (ℕ → Word) → Bool → Sheet → List ℕ
board_by label result verdict h = lines label result h.count ++ ending verdict

-- The text of what was read, that of a sheet or that of a refusal being another.
unfoldable pub text_by : (Sheet → List ℕ) → (ℕ → ℕ → List ℕ) → Outcome × Sheet → List ℕ
text_by text line (accepted, h) = text h
text_by text line (refused number place, h) = line number place

-- One verdict for every sheet: HOLDS.
unfoldable pub always_holds : List ℕ → List ℕ
always_holds s = text_by (λ h. board_by (own_label s) (result_of passes h) true h) no_verdict (reading s)

-- The place of a refusal is always 0.
unfoldable pub place_zero : List ℕ → List ℕ
place_zero s = text_by (board (own_label s)) (λ number place. no_verdict number 0) (reading s)

-- A refused sheet prints its rows, of which it has none.
unfoldable pub refused_is_empty : List ℕ → List ℕ
refused_is_empty s = text_by (board (own_label s)) (λ number place. ending true) (reading s)

-- The first row's label is printed for every row.
unfoldable pub first_label_again : List ℕ → List ℕ
first_label_again s = text_by (λ h. board_by (λ i. own_label s 0) (result_of passes h) (holds passes h) h) no_verdict (reading s)

-- The last digit of a bound is lost.
unfoldable pub digit_lost : Word → Word
digit_lost (bound r) = bound (r / 10)
digit_lost none = none
digit_lost unreached = unreached

unfoldable pub short_bounds : List ℕ → List ℕ
short_bounds s = text_by (λ h. board_by (own_label s) (λ i. digit_lost (result_of passes h i)) (holds passes h) h) no_verdict (reading s)

-- The last row is left out.
unfoldable pub last_row_lost : List ℕ → List ℕ
last_row_lost s = text_by (λ h. lines (own_label s) (result_of passes h) (h.count - 1) ++ ending (holds passes h)) no_verdict (reading s)

-- The reference prints sheet A under each letter.
unfoldable pub same_section : ℕ → List ℕ
same_section i = letter i ++ newline ++ board (numbered prefix) (fixed_sheet 0)

unfoldable pub same_sections : ℕ → List ℕ
same_sections zero = []
same_sections (suc n) = same_sections n ++ same_section n

unfoldable pub sheet_a_each_time : List ℕ
sheet_a_each_time = same_sections fixed_count

-- The reference ends before sheet E.
unfoldable pub sheet_left_out : List ℕ
sheet_left_out = sections (fixed_count - 1)

-- A buffer of ones, as long as that for a sheet, and as long as that for a text.
unfoldable pub input_of_ones : List ℕ
input_of_ones = replicate input_size 1

unfoldable pub text_of_ones : List ℕ
text_of_ones = replicate text_size 1

-- A buffer in which one byte more than the longest sheet has no room.
unfoldable pub input_too_small : List ℕ
input_too_small = replicate (input_size - 1) 0

-- A buffer in which the longest text is not whole.
unfoldable pub text_too_small : List ℕ
text_too_small = replicate 1024 0

-- Sheet C with labels roll and trim, whose second row has no bound, and the same with a blank for its last byte.
abbrev pub sheet_c_bytes : List ℕ
sheet_c_bytes = roll_and_trim ++ (0x03 ∷ [])

abbrev pub blank_c_bytes : List ℕ
blank_c_bytes = roll_and_trim ++ (0x00 ∷ [])

-- A buffer of forty bytes, in which the text of sheet C is whole, and one of four hundred, in which the reference is.
abbrev pub forty : List ℕ
forty = replicate 40 0

abbrev pub four_hundred : List ℕ
four_hundred = replicate 400 0
