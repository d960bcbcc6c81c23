-- `state_of` meets its promise. Assumes nothing.
use Rattle.basis.specs.Prelude.{◌≡◌, refl, arith}
use Rattle.states.proofs.Names.{most_rows, upto, upto_set, record_in}
use Rattle.states.proofs.Inside.ValueLists.{records_done}
use Rattle.states.proofs.lists.state_of.Goals as goal

pub loop-i-init : goal.loop-i-init
unfolding upto
loop-i-init c = refl

pub loop-i-preserved : goal.loop-i-preserved
unfolding record_in
loop-i-preserved c = upto_set _ _ _ _ _ c.loop-i.invariant refl

pub returns : goal.returns
returns c = let all : c.loop-i.i ≡ most_rows = omega arith in records_done _ _ (rw all at c.loop-i.invariant) c.told-list
