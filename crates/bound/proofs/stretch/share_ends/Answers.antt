-- `share_ends` has ends whose line the row's amount is never below. Assumes nothing.
use Rattle.bound.proofs.RowLines.{share_meets}
use Rattle.bound.proofs.stretch.share_ends.Goals as goal

pub returns : goal.returns
returns c = search share_meets
