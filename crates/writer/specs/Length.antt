-- How many bytes a sheet takes: a sum over its rows.
use Rattle.std.specs.Prelude.{◌+◌}
use Rattle.basis.specs.Prelude.{ℕ, List, length}
use Rattle.basis.specs.Words.{sum}
use Rattle.numbers.specs.Numbers.{width}
use Rattle.sheet.specs.Legal.{row_at}
use Rattle.sheet.specs.declared.row.Row.{Row}
use Rattle.sheet.specs.declared.row.Sheet.{Sheet}
use Rattle.reader.specs.Form.{mark_bytes}
use Rattle.reader.specs.Lists.{part_in}

-- The numbers of a row.
unfoldable pub row_long : Row → ℕ
row_long row = width row.threads + width row.separation + (width row.deadline + width row.budget)

-- A row whose label is so long: the label's length, its bytes, and the numbers.
unfoldable pub entry_long : ℕ → Row → ℕ
entry_long long row = width long + long + row_long row

-- Row k of a sheet, by its list of labels.
abbrev pub long_at : Sheet → List ℕ → ℕ → ℕ
long_at h labels k = entry_long (part_in labels k).long (row_at h k)

-- What stands before the rows.
unfoldable pub head_long : ℕ → ℕ → ℕ
head_long m n = length mark_bytes + (width m + width n)

-- A whole sheet.
unfoldable pub sheet_length : Sheet → List ℕ → ℕ
sheet_length h labels = head_long h.processors h.count + sum h.count (long_at h labels)
