-- What the reader and the label answer.
use Rattle.std.specs.Prelude.{◌+◌, Result, Ok, Err}
use Rattle.basis.specs.Prelude.{ℕ, List, map, length, take, drop, replicate, ltb}
use Rattle.std.specs.Borrow.{Bor}
use Rattle.basis.specs.Limits.{most_rows}
use Rattle.basis.specs.Words.{pick}
use Rattle.basis.specs.Upto.{upto}
use Rattle.basis.specs.Refusals.{Outcome, accepted, refused, refused_by}
use Rattle.basis.specs.Readers.{Step, ok, refuse}
use Rattle.reader.specs.Form.{Held, entry_row, sheet, label_head}
use Rattle.sheet.specs.Values.{padded, no_sheet}
use Rattle.reader.specs.declared.row.Part.{Part}
use Rattle.sheet.specs.declared.row.Sheet.{Sheet}
use Rattle.basis.specs.declared.refusal.Refusal.{Refusal}

-- What the code's answer stands for: the outcome, and the sheet beside it, which is one of zeros beside a refusal.
abbrev pub outcome_and_sheet : Result Sheet Refusal → Outcome × Sheet
outcome_and_sheet (Ok sheet) = (accepted, sheet)
outcome_and_sheet (Err r) = (refused_by r, no_sheet)

-- The sheet by value of what was read.
abbrev pub sheet_held : Held → Sheet
sheet_held h = record { processors = h.processors; count = length h.entries; rows = padded (map entry_row h.entries) }

-- What is handed over after reading: the sheet, or the one refusal with a sheet of zeros beside it.
abbrev pub reading_of : Step Held → Outcome × Sheet
reading_of (ok h n) = (accepted, sheet_held h)
reading_of (refuse number place) = (refused number place, no_sheet)

-- The reader's answer, for any bytes.
abbrev pub reading : List ℕ → Outcome × Sheet
reading s = reading_of (sheet s 0)

-- The empty part.
abbrev pub nowhere : Part
nowhere = record { start = 0; long = 0 }

-- The number of rows of a sheet that was read; of a refused one there are none.
abbrev pub rows_read : Step Held → ℕ
rows_read (ok h n) = length h.entries
rows_read (refuse number place) = 0

-- A part whose length was read, and that starts there.
abbrev pub part_after : Step ℕ → Part
part_after (ok long start) = record { start = start; long = long }
part_after (refuse number place) = nowhere

-- The label of row i, by a whole reading: the empty part for any refusal, and for a row number n or more.
unfoldable pub label_in : List ℕ → ℕ → Part
label_in s i = pick (ltb i (rows_read (sheet s 0))) (part_after (label_head i s 0)) nowhere

-- The empty part for each row that a sheet may have.
abbrev pub no_parts : List Part
no_parts = replicate most_rows nowhere

-- The labels of all rows, by a whole reading: of each row its label, and the empty part past the rows.
unfoldable pub labels_in : List ℕ → List Part
labels_in s = upto most_rows (label_in s) no_parts

-- What a lent part shows: where in memory it starts, and its bytes.
abbrev pub shown : Bor (List ℕ) → (ℕ × ℕ) × List ℕ
shown r = (r.ref_ptr, r.now)

-- A part of the lent bytes: so many bytes after their own start, and the bytes there.
abbrev pub part : Bor (List ℕ) → Part → (ℕ × ℕ) × List ℕ
part s p = ((s.ref_ptr.0, p.start + s.ref_ptr.1), take p.long (drop p.start s.now))
