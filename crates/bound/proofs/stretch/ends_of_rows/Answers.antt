-- `ends_of_rows` has ends whose line the sum is never below: the loop has those of the first i rows. Assumes nothing.
use Rattle.bound.proofs.Stretches.{meet_none, meet_done}
use Rattle.bound.proofs.stretch.ends_of_rows.Goals as goal

pub loop-i-init : goal.loop-i-init
loop-i-init c = search meet_none

pub returns : goal.returns
returns c = search meet_done
