-- `next_length` steps over lengths that fail. Assumes nothing.
use Rattle.basis.specs.Prelude.{rules}
use Rattle.bound.proofs.Steps.{divides, next_fits, one_more_fits, next_skips}
use Rattle.bound.proofs.search.next_length.Goals as goal

pub fills-count-requires : goal.fills-count-requires
fills-count-requires c = search divides

pub plus-requires : goal.plus-requires
plus-requires c = search (next_fits, rw c.of.ensures at c.greater-further.ensures, rules)

pub plus-requires-2 : goal.plus-requires-2
plus-requires-2 c = search (one_more_fits, rw c.of.ensures at c.greater-further.ensures, rules)

pub returns : goal.returns
returns c = search (next_skips, rw c.of.ensures at c.greater-further.ensures, rw c.of-2.ensures at c.plus-2.ensures)
