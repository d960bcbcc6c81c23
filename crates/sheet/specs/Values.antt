-- A sheet by value: its rows, with zeros past them.
use Rattle.std.specs.Prelude.{◌-◌, ◌++◌}
use Rattle.basis.specs.Prelude.{ℕ, List, length, replicate}
use Rattle.basis.specs.Limits.{most_rows}
use Rattle.sheet.specs.Legal.{no_row}
use Rattle.sheet.specs.declared.row.Row.{Row}
use Rattle.sheet.specs.declared.row.Sheet.{Sheet}

-- So many rows that are not there.
abbrev pub no_rows : ℕ → List Row
no_rows n = replicate n no_row

-- The rows, and zeros past them.
abbrev pub padded : List Row → List Row
padded rs = rs ++ no_rows (most_rows - length rs)

-- A sheet that is not there: all zero.
abbrev pub no_sheet : Sheet
no_sheet = record { processors = 0; count = 0; rows = no_rows most_rows }
