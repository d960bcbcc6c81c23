-- `giachimu_write_scenario` meets its promise. Assumes nothing.
use Rattle.exports.proofs.Names.{scenario_written}
use Rattle.exports.proofs.Inside.LentAnswers.{found_is_told}
use Rattle.exports.proofs.scenarios.giachimu_write_scenario.Goals as goal

pub returns : goal.returns
unfolding scenario_written
returns c = found_is_told _ _ _ c.write_scenario.ensures _ _ _ c.put_found.ensures _ c.tell.ensures
