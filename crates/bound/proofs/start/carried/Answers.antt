-- `carried` is the length that a bound above gives. Assumes nothing.
use Rattle.bound.proofs.Carry.{carried_is}
use Rattle.bound.proofs.start.carried.Goals as goal

pub returns : goal.returns
returns c = search carried_is
