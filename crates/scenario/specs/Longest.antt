-- The longest scenario of so many slots, and how far the reading of a slot looks.
use Rattle.std.specs.Prelude.{◌+◌, ◌*◌}
use Rattle.basis.specs.Prelude.{ℕ, length}
use Rattle.basis.specs.Limits.{most_groups, most_rows, most_separation}
use Rattle.basis.specs.Words.{sum}
use Rattle.numbers.specs.Numbers.{width}
use Rattle.scenario.specs.Form.{mark_bytes}

-- The most bytes of a release of row i: its number, and a slot count up to the largest separation.
unfoldable pub longest_release : ℕ → ℕ
longest_release i = width i + width most_separation

-- The most bytes of a slot of n rows: the number of releases, and a release of each row.
unfoldable pub longest_slot : ℕ → ℕ
longest_slot n = width n + sum n longest_release

-- The most bytes of k slots, with the mark.
unfoldable pub longest_scenario : ℕ → ℕ → ℕ
longest_scenario n k = length mark_bytes + k * longest_slot n

-- How many bytes the reading of a slot looks at, at most: a number of releases, a row and a count for each row, and one row number more, which is refused.
abbrev pub slot_reach : ℕ
slot_reach = (most_rows + 1) * 2 * most_groups
