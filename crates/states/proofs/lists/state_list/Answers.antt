-- `state_list` meets its promise. Assumes nothing.
use Rattle.basis.specs.Prelude.{◌≡◌, refl, arith}
use Rattle.states.proofs.Names.{most_rows, unmapped, put_to}
use Rattle.states.proofs.Inside.ValueLists.{list_more, state_in_list}
use Rattle.states.proofs.lists.state_list.Goals as goal

pub loop-i-init : goal.loop-i-init
unfolding put_to
loop-i-init c = refl

pub loop-i-preserved : goal.loop-i-preserved
loop-i-preserved c = search list_more

pub returns : goal.returns
returns c = let all : c.loop-i.i ≡ most_rows = omega arith in let so = rw all at c.loop-i.invariant in search (state_in_list, unmapped)
