-- `joined` is a pace with a row more. Assumes nothing.
use Rattle.bound.proofs.Durations.{less_is}
use Rattle.bound.proofs.Paces.{join_fits, join_more}
use Rattle.bound.proofs.pace.joined.Goals as goal

pub overflow_add-width : goal.overflow_add-width
overflow_add-width c = search join_fits

pub returns : goal.returns
returns c = search (join_more, less_is)
