-- How far the functions inside the writer come, at most; no promise of a public function speaks of it.
use Rattle.std.specs.Prelude.{◌+◌, ◌*◌}
use Rattle.basis.specs.Prelude.{ℕ}
use Rattle.basis.specs.Limits.{most_groups, most_rows, longest_label}

-- What stands before the rows: the mark, and two numbers.
abbrev pub most_head : ℕ
most_head = 4 + 2 * most_groups

-- A label with its length.
abbrev pub most_label : ℕ
most_label = most_groups + longest_label

-- The numbers of a row.
abbrev pub most_row : ℕ
most_row = 4 * most_groups

-- A row with its label.
abbrev pub most_entry : ℕ
most_entry = most_label + most_row

-- A sheet.
abbrev pub most_sheet : ℕ
most_sheet = most_head + most_rows * most_entry
