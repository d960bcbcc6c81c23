-- `hand_over` meets its promise: each way out is a law. Assumes nothing.
use Rattle.basis.specs.Prelude.{⊎_elim}
use Rattle.reader.proofs.Inside.Handover.{both_handed_over, no_room_for_list, no_room_for_labels}
use Rattle.reader.proofs.into.hand_over.Goals as goal

pub returns-then-list-long : goal.returns-then-list-long
returns-then-list-long c = ⊎_elim (no_room_for_list _ _ _ _ _) (λ h. no_room_for_labels _ _ _ _ _ h.0 h.1) c.then-list-long.either

pub returns : goal.returns
returns c = rw (c.copy_from_slice.ensures.after, c.copy_from_slice-2.ensures.after) (both_handed_over _ _ _ _ _ c.requires.1 c.requires.2 c.if-list-long.false c.if-labels-places.false)
