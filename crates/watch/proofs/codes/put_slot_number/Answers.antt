-- `put_slot_number` meets its promise. Assumes nothing.
use Rattle.watch.proofs.Names.{slot_number, three_said}
use Rattle.watch.proofs.codes.put_slot_number.Goals as goal

pub returns : goal.returns
unfolding slot_number
returns c = search three_said
