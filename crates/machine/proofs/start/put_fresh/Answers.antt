-- `put_fresh` meets its promise: the rows so far are fresh. Assumes nothing.
use Rattle.basis.specs.Prelude.{refl}
use Rattle.machine.proofs.Names.{put_to}
use Rattle.machine.proofs.Inside.FreshLists.{fresh_more}
use Rattle.machine.proofs.start.put_fresh.Goals as goal

pub loop-i-init : goal.loop-i-init
unfolding put_to
loop-i-init c = refl

pub loop-i-preserved : goal.loop-i-preserved
loop-i-preserved c = search fresh_more
