-- The longest text, and the buffers that a program lends.
use Rattle.std.specs.Prelude.{◌+◌}
use Rattle.basis.specs.Prelude.{ℕ, List, length, replicate}
use Rattle.basis.specs.Limits.{most_rows, longest_label, most_separation}
use Rattle.basis.specs.Words.{sum}
use Rattle.reader.specs.Longest.{longest_sheet}
use Rattle.page.specs.Decimals.{decimal}
use Rattle.dashboard.specs.Words.{space, newline, bound_word, holds_line}

-- The most bytes of a row's line: its number, the longest label, and a bound of as many digits as the largest separation.
unfoldable pub longest_line : ℕ → ℕ
longest_line row = length (decimal row) + length space + longest_label + length space + (length bound_word + length (decimal most_separation)) + length newline

-- The most bytes of a verdict: the most rows, and the last line.
unfoldable pub longest_text : ℕ
longest_text = sum most_rows longest_line + length holds_line

-- How many bytes a program reads: one more than the longest sheet has.
unfoldable pub input_size : ℕ
input_size = longest_sheet + 1

-- The buffer that it reads into.
abbrev pub input_buffer : List ℕ
input_buffer = replicate input_size 0

-- The size of the buffer that a program lends for the text.
abbrev pub text_size : ℕ
text_size = 1536

-- That buffer.
abbrev pub text_buffer : List ℕ
text_buffer = replicate text_size 0
