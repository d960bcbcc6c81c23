-- `result_at` is a result of a list, by its word and its bound. Assumes nothing.
use Rattle.basis.proofs.Inside.Tests.{tests}
use Rattle.bound.specs.Lists.{word_at}
use Rattle.bound.proofs.results.result_at.Goals as goal

pub returns-in-0 : goal.returns-in-0
unfolding word_at
returns-in-0 c = search tests

pub returns-in-1 : goal.returns-in-1
unfolding word_at
returns-in-1 c = simp c.in-1.is

pub returns-in_default : goal.returns-in_default
unfolding word_at
returns-in_default c = search tests
