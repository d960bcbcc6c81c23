-- `span_of` is x. Assumes nothing.
use Rattle.bound.proofs.Durations.{span_is}
use Rattle.bound.proofs.test.span_of.Goals as goal

pub returns : goal.returns
returns c = search span_is
