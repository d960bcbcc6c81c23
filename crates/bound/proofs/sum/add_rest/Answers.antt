-- `add_rest` adds the rows that are left: the loop has rows that are added, and their sum reaches q × X. Assumes nothing.
use Rattle.basis.specs.Prelude.{rules}
use Rattle.bound.proofs.Sums.{fills_still}
use Rattle.bound.proofs.sum.add_rest.Goals as goal

pub loop-all-preserved : goal.loop-all-preserved
loop-all-preserved c = (search rules, search fills_still)
