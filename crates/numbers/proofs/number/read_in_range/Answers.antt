-- `read_in_range` meets its promise: an error of the range is told as the refusal that it is. Assumes nothing.
use Rattle.numbers.proofs.Encoding.{ranged_step}
use Rattle.numbers.proofs.number.read_in_range.Goals as goal

pub returns : goal.returns
returns c = ranged_step _ _ _ _ _ _ c.in_range.ensures
