-- `put_slot` meets its promise. Assumes nothing.
use Rattle.watch.proofs.Names.{slot_line, three_said}
use Rattle.watch.proofs.codes.put_slot.Goals as goal

pub returns : goal.returns
unfolding slot_line
returns c = search three_said
