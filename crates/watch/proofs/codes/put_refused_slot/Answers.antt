-- `put_refused_slot` meets its promise. Assumes nothing.
use Rattle.watch.proofs.Names.{refused_slot, three_said}
use Rattle.watch.proofs.codes.put_refused_slot.Goals as goal

pub returns : goal.returns
unfolding refused_slot
returns c = rw (← c.into-number.ensures) (search three_said)
