-- `margin` meets its promise. Assumes nothing.
use Rattle.states.proofs.Inside.ValueLists.{margin_by_list}
use Rattle.states.proofs.state.State.margin.Goals as goal

pub returns : goal.returns
returns c = search margin_by_list
