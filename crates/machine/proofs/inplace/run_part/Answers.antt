-- `run_part` meets its promise. Assumes nothing.
use Rattle.basis.specs.Prelude.{rules, refl}
use Rattle.machine.proofs.Names.{course}
use Rattle.machine.proofs.Inside.Courses.{room_for, goes_on, stops, ends}
use Rattle.machine.proofs.inplace.run_part.Goals as goal

pub loop-done-init : goal.loop-done-init
unfolding course
loop-done-init c = (search rules, refl)

pub slot_part-requires : goal.slot_part-requires
slot_part-requires c = (search rules, search room_for, search (rules, room_for))

pub returns-in-Err : goal.returns-in-Err
returns-in-Err c = (stops _ _ _ _ _ _ c.loop-done.invariant.1 _ _ _ _ _ c.loop-done-test.true c.in-Err.ensures.0, c.slot_part.ensures.1)

pub loop-done-preserved : goal.loop-done-preserved
loop-done-preserved c = (c.slot_part.ensures.1, goes_on _ _ _ _ _ _ c.loop-done.invariant.1 _ _ c.in_default.ensures.0)

pub returns : goal.returns
returns c = (search ends, search rules)
