-- `q_of` is q. Assumes nothing.
use Rattle.bound.proofs.Amounts.{threads_fit, q_is}
use Rattle.bound.proofs.test.q_of.Goals as goal

pub overflow_sub-result : goal.overflow_sub-result
overflow_sub-result c = search threads_fit

pub returns : goal.returns
returns c = search q_is
