-- The longest line, and the buffer that a program lends.
use Rattle.std.specs.Prelude.{◌+◌, ◌*◌}
use Rattle.basis.specs.Prelude.{ℕ, List, replicate}
use Rattle.basis.specs.Limits.{most_rows}
use Rattle.page.specs.Decimals.{most_digits}

-- The most bytes of a line: of a slot's number, of a code for each row after a space, and of the line's end.
abbrev pub line_size : ℕ
line_size = most_rows * 2 + most_digits + 1

-- The buffer for a line.
abbrev pub line_buffer : List ℕ
line_buffer = replicate line_size 0
