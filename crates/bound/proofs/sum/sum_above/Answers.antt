-- `sum_above` adds rows until their sum reaches q × X, and its yes or no is the test's. Assumes nothing.
use Rattle.basis.specs.Prelude.{rules}
use Rattle.bound.proofs.Durations.{at_most_is}
use Rattle.bound.proofs.Sums.{adds_none, reached_tells, all_tell}
use Rattle.bound.proofs.sum.sum_above.Goals as goal

pub loop-added-init : goal.loop-added-init
loop-added-init c = search adds_none

pub returns-then-le : goal.returns-then-le
returns-then-le c = (search rules, search (reached_tells, at_most_is))

pub returns : goal.returns
returns c = (search rules, search (all_tell, rules))
