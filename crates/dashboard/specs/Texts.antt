-- The text of a verdict, for any bytes, and of the reference.
use Rattle.std.specs.Prelude.{◌+◌, ◌∷◌, ◌++◌}
use Rattle.basis.specs.Prelude.{ℕ, zero, suc, List, []}
use Rattle.basis.specs.Refusals.{Outcome, accepted, refused}
use Rattle.reader.specs.Answers.{reading}
use Rattle.sheet.specs.declared.row.Sheet.{Sheet}
use Rattle.bound.specs.Test.{passes}
use Rattle.bound.specs.Bound.{Word, result_of, holds}
use Rattle.tables.specs.Tables.{fixed_sheet}
use Rattle.dashboard.specs.Words.{newline, line, ending, no_verdict}
use Rattle.dashboard.specs.Labels.{own_label, numbered}

-- The lines of the first n rows, with these labels and results.
unfoldable pub lines : (ℕ → List ℕ) → (ℕ → Word) → ℕ → List ℕ
lines label result zero = []
lines label result (suc n) = lines label result n ++ line n (label n) (result n)

-- The text of a sheet: a line for each row, then HOLDS or FAILS.
unfoldable pub board : (ℕ → List ℕ) → Sheet → List ℕ
board label h = lines label (result_of passes h) h.count ++ ending (holds passes h)

-- The text of what was read: the sheet's, with its own labels, or the one line of the refusal.
abbrev pub text_of : List ℕ → Outcome × Sheet → List ℕ
text_of s (accepted, h) = board (own_label s) h
text_of s (refused number place, h) = no_verdict number place

-- The text of the verdict on any bytes.
unfoldable pub verdict_text : List ℕ → List ℕ
verdict_text s = text_of s (reading s)

-- The sheets of the reference: A to E.
abbrev pub fixed_count : ℕ
fixed_count = 5

-- The letter of a fixed sheet.
abbrev pub letter : ℕ → List ℕ
letter i = (0x41 + i) ∷ []

-- `r`, which stands before the row number in a label of the reference.
abbrev pub prefix : List ℕ
prefix = 0x72 ∷ []

-- A line with the letter of a fixed sheet, then its lines with labels r0, r1 and so on.
unfoldable pub section : ℕ → List ℕ
section i = letter i ++ newline ++ board (numbered prefix) (fixed_sheet i)

-- The sections of the first n fixed sheets.
unfoldable pub sections : ℕ → List ℕ
sections zero = []
sections (suc n) = sections n ++ section n

-- The text of the reference.
unfoldable pub reference_text : List ℕ
reference_text = sections fixed_count
