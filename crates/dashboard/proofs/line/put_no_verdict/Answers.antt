-- `put_no_verdict` meets its promise. Assumes nothing.
use Rattle.dashboard.proofs.Names.{no_verdict, four_said}
use Rattle.dashboard.proofs.line.put_no_verdict.Goals as goal

pub returns : goal.returns
unfolding no_verdict
returns c = rw (← c.into-number.ensures) (search four_said)
