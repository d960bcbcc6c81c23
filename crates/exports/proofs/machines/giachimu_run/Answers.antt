-- `giachimu_run` meets its promise. Assumes nothing.
use Rattle.exports.proofs.Inside.Calls.{run_answered}
use Rattle.exports.proofs.machines.giachimu_run.Goals as goal

pub returns : goal.returns
returns c = search run_answered
