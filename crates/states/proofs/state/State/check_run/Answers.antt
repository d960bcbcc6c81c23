-- `check_run` meets its promise: its checks are those of the lists. Assumes nothing.
use Rattle.states.proofs.Inside.ValueLists.{run_check_by_list}
use Rattle.states.proofs.state.State.check_run.Goals as goal

pub returns : goal.returns
returns c = search run_check_by_list
