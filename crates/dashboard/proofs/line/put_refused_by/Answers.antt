-- `put_refused_by` meets its promise. Assumes nothing.
use Rattle.dashboard.proofs.Names.{refused_by, two_said}
use Rattle.dashboard.proofs.line.put_refused_by.Goals as goal

pub returns : goal.returns
unfolding refused_by
returns c = search two_said
