-- How a sheet is written: the same form that the reader reads.
use Rattle.std.specs.Prelude.{◌∷◌, ◌++◌}
use Rattle.basis.specs.Prelude.{ℕ, List, [], length}
use Rattle.numbers.specs.Numbers.{spell}
use Rattle.sheet.specs.declared.row.Row.{Row}
use Rattle.reader.specs.Form.{Entry, Held, mark_bytes}

-- A label: its length, and its bytes.
abbrev pub label_bytes : List ℕ → List ℕ
label_bytes l = spell (length l) ++ l

-- The numbers of a row: threads, separation, deadline, budget.
unfoldable pub row_bytes : Row → List ℕ
row_bytes row = spell row.threads ++ (spell row.separation ++ (spell row.deadline ++ spell row.budget))

-- A row with its label.
unfoldable pub entry_bytes : Entry → List ℕ
entry_bytes e = label_bytes e.label ++ row_bytes e.row

-- Row after row.
unfoldable pub entries_bytes : List Entry → List ℕ
entries_bytes [] = []
entries_bytes (e ∷ es) = entry_bytes e ++ entries_bytes es

-- What stands before the rows: the mark, processors m, rows n.
unfoldable pub head_bytes : ℕ → ℕ → List ℕ
head_bytes m n = mark_bytes ++ (spell m ++ spell n)

-- A whole sheet.
unfoldable pub sheet_bytes : Held → List ℕ
sheet_bytes h = head_bytes h.processors (length h.entries) ++ entries_bytes h.entries
