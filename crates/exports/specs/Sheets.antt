-- What the calls for a sheet that is written answer: where its labels lie, and its bytes.
use Rattle.basis.specs.Prelude.{ℕ, List, length}
use Rattle.basis.specs.Refusals.{Outcome, or_else, room_for}
use Rattle.sheet.specs.Lists.{sheet_in, filled}
use Rattle.sheet.specs.declared.row.Sheet.{Sheet}
use Rattle.reader.specs.Answers.{reading}
use Rattle.reader.specs.Lists.{labels_long, label_cell}
use Rattle.writer.specs.Answers.{write_sheet}
use Rattle.exports.specs.Answers.{answered, lent_told}

-- The labels of all rows: the reader's refusals, then the room for two numbers a row; past the rows there are zeros.
unfoldable pub labels_by : Outcome × Sheet → List ℕ → List ℕ → (ℕ × ℕ) × List ℕ
labels_by (o, h) s list = answered (or_else o (room_for (labels_long h.count) (length list))) (filled (label_cell s) list) list

unfoldable pub labels_on : List ℕ → List ℕ → (ℕ × ℕ) × List ℕ
labels_on s list = labels_by (reading s) s list

-- A sheet's list and its labels written as its bytes: 10, 6, then 15.
unfoldable pub sheet_written : List ℕ → List ℕ → List ℕ → ℕ × List ℕ → (ℕ × ℕ) × (ℕ × List ℕ)
sheet_written sheet s labels (found, out) = lent_told (write_sheet (sheet_in sheet) s labels out) found
