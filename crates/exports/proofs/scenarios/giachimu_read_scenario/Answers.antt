-- `giachimu_read_scenario` meets its promise. Assumes nothing.
use Rattle.exports.proofs.Names.{scenario_read}
use Rattle.exports.proofs.Inside.LentAnswers.{found_is_told}
use Rattle.exports.proofs.scenarios.giachimu_read_scenario.Goals as goal

pub returns : goal.returns
unfolding scenario_read
returns c = found_is_told _ _ _ c.read_scenario.ensures _ _ _ c.put_found.ensures _ c.tell.ensures
