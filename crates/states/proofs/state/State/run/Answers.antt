-- `run` meets its promise. Assumes nothing.
use Rattle.states.proofs.Inside.ValueLists.{run_by_list}
use Rattle.states.proofs.state.State.run.Goals as goal

pub returns : goal.returns
returns c = search run_by_list
