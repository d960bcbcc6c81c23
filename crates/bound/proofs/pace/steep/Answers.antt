-- `steep` stays within the pace and the amount. Assumes nothing.
use Rattle.bound.proofs.Steps.{steep_whole, steep_part}
use Rattle.bound.proofs.pace.steep.Goals as goal

pub returns-then-q-pace : goal.returns-then-q-pace
returns-then-q-pace c = search steep_whole

pub returns : goal.returns
returns c = search steep_part
