-- `giachimu_slot` meets its promise. Assumes nothing.
use Rattle.exports.proofs.Inside.Calls.{slot_answered}
use Rattle.exports.proofs.machines.giachimu_slot.Goals as goal

pub returns : goal.returns
returns c = search slot_answered
