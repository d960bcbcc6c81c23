-- `giachimu_fresh` meets its promise. Assumes nothing.
use Rattle.exports.proofs.Inside.Calls.{fresh_answered}
use Rattle.exports.proofs.machines.giachimu_fresh.Goals as goal

pub returns : goal.returns
returns c = search fresh_answered
