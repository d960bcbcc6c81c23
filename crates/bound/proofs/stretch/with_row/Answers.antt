-- `with_row` has ends whose line the sum with one row more is never below. Assumes nothing.
use Rattle.bound.proofs.Stretches.{row_along, meet_more}
use Rattle.bound.proofs.stretch.with_row.Goals as goal

pub ends_above-more-requires : goal.ends_above-more-requires
ends_above-more-requires c = search row_along

pub returns : goal.returns
returns c = search meet_more
