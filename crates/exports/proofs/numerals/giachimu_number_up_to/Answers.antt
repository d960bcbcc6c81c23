-- `giachimu_number_up_to` meets its promise: the step that is read is told. Assumes nothing.
use Rattle.exports.proofs.Names.{step_told, up_to_on}
use Rattle.exports.proofs.numerals.giachimu_number_up_to.Goals as goal

pub returns-in-Ok : goal.returns-in-Ok
unfolding up_to_on step_told
returns-in-Ok c = rw (← c.in-Ok.ensures)

pub returns-in-Err : goal.returns-in-Err
unfolding up_to_on step_told
returns-in-Err c = rw (← c.in-Err.ensures)
