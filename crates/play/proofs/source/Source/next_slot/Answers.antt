-- `next_slot` meets its promise: a slot that was read ends in the window. Assumes nothing.
use Rattle.basis.specs.Prelude.{rules}
use Rattle.play.proofs.Inside.Slots.{ends_in_window}
use Rattle.play.proofs.source.Source.next_slot.Goals as goal

pub invariant_of-self : goal.invariant_of-self
invariant_of-self g c = record { next = ends_in_window _ _ _ _ c.in-Ok.read c.in-Ok.ensures; last = search rules }
