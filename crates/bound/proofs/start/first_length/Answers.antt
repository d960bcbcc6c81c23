-- `first_length` is a length before which none passes: the latest that the rows above give. Assumes nothing.
use Rattle.bound.proofs.Carry.{start_at_budget, above_budget, threads_small, carried_starts, start_later}
use Rattle.bound.proofs.start.first_length.Goals as goal

pub loop-j-init : goal.loop-j-init
loop-j-init c = search start_at_budget

pub carried-later-requires : goal.carried-later-requires
carried-later-requires c = (search above_budget, search threads_small)

pub loop-j-preserved : goal.loop-j-preserved
loop-j-preserved c = search (start_later, carried_starts)
