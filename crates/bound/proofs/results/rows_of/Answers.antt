-- `rows_of` has the result of every row: the loop has those of the first i. Assumes nothing.
use Rattle.basis.specs.Prelude.{refl}
use Rattle.bound.proofs.Names.{upto}
use Rattle.bound.proofs.Inside.Rows.{rows_more, rows_done}
use Rattle.bound.proofs.results.rows_of.Goals as goal

pub loop-i-init : goal.loop-i-init
unfolding upto
loop-i-init c = refl

pub loop-i-preserved : goal.loop-i-preserved
unfolding upto
loop-i-preserved c = search rows_more

pub returns : goal.returns
unfolding upto
returns c = search rows_done
