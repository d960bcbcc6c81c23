-- `lasts` says whether the present separation lasts. Assumes nothing.
use Rattle.basis.specs.Prelude.{rules}
use Rattle.bound.proofs.Durations.{span_small, at_most_is}
use Rattle.bound.proofs.RowLines.{lasts_fits, lasts_is}
use Rattle.bound.proofs.stretch.lasts.Goals as goal

pub left-ran-requires : goal.left-ran-requires
left-ran-requires c = (search rules, search rules, search span_small)

pub plus-end-requires : goal.plus-end-requires
plus-end-requires c = search (lasts_fits, rules)

pub returns : goal.returns
returns c = search (lasts_is, at_most_is)
