-- `play_slot` meets its promise: a slot is played, and refused or not. Assumes nothing.
use Rattle.basis.specs.Prelude.{rules}
use Rattle.watch.proofs.Inside.Slots.{play_refused, codes_there, codes_part, play_accepted}
use Rattle.watch.proofs.play.play_slot.Goals as goal

pub slice_bounds-codes-end : goal.slice_bounds-codes-end
slice_bounds-codes-end c = codes_there _ _ _ c.args.text.now c.args.slot _ _ c.in-Ok.ensures _ (search rules)

pub slice_bounds-put_slot-end : goal.slice_bounds-put_slot-end
slice_bounds-put_slot-end c = codes_part _ _ _ c.args.text.now c.args.slot _ _ c.in-Ok.ensures _ (search rules)

pub returns-in-Ok : goal.returns-in-Ok
returns-in-Ok c = play_accepted _ _ _ c.args.text.now c.args.slot _ _ c.in-Ok.ensures _ (search rules) _ c.put_slot.ensures

pub returns-in-Err : goal.returns-in-Err
returns-in-Err c = play_refused _ _ _ _ _ _ _ _ _ c.in-Err.ensures _ c.put_refused_slot.ensures
