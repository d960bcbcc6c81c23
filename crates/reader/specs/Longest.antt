-- The longest sheet.
use Rattle.std.specs.Prelude.{◌+◌, ◌*◌}
use Rattle.basis.specs.Prelude.{ℕ, length}
use Rattle.basis.specs.Limits.{most_processors, most_rows, longest_label, most_separation}
use Rattle.numbers.specs.Numbers.{width}
use Rattle.reader.specs.Form.{mark_bytes}

-- The most bytes of a row: a label and its length, threads, and three numbers up to the largest separation.
unfoldable pub longest_row : ℕ
longest_row = width longest_label + longest_label + (width most_processors + (width most_separation + (width most_separation + width most_separation)))

-- The most bytes of a sheet: the mark, processors, rows, and the most rows of the most bytes.
unfoldable pub longest_sheet : ℕ
longest_sheet = length mark_bytes + (width most_processors + (width most_rows + most_rows * longest_row))
