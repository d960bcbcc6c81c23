-- `box_run` meets its promise: its loop does the slots of the run's course, each on its own entries and on the buffer from its place on. Assumes nothing.
use Rattle.basis.specs.Prelude.{◌∙◌, refl, arith, rules}
use Rattle.machine.proofs.Inside.Answers.{run_rows}
use Rattle.machine.proofs.Inside.Courses.{goes_on, stops, ends}
use Rattle.aboard.proofs.Names.{course}
use Rattle.aboard.proofs.Inside.BoxLoop.{box_shut, box_refused, box_course, place_begun, slot_at_is}
use Rattle.aboard.proofs.lent.box_run.Goals as goal

pub returns-in-Err : goal.returns-in-Err
returns-in-Err c = box_shut _ _ _ c.in-Err.ensures _ _

pub returns-in-Err-check_run : goal.returns-in-Err-check_run
returns-in-Err-check_run c = box_refused _ _ c.in-Ok.ensures _ _ _ _ c.in-Err-check_run.ensures

pub nonzero_div-slots : goal.nonzero_div-slots
nonzero_div-slots c = run_rows _ _ _ _ c.in_default.ensures _ refl

pub loop-done-init : goal.loop-done-init
unfolding course
loop-done-init c = refl

pub slice_bounds-slot_in-count-in-loop-done : goal.slice_bounds-slot_in-count-in-loop-done
slice_bounds-slot_in-count-in-loop-done c =
    (place_begun _ _ _ _ _ _ c.in_default.ensures _ c.loop-done-test.true (omega (arith, c.loop-done.auto.codes)) (search rules) (search rules)).in_codes

pub slice_bounds-slot_in-start-in-loop-done : goal.slice_bounds-slot_in-start-in-loop-done
slice_bounds-slot_in-start-in-loop-done c = slice_bounds-slot_in-count-in-loop-done c

pub returns-in-Err-slot_in : goal.returns-in-Err-slot_in
returns-in-Err-slot_in c =
    stops _ _ _ _ _ _ c.loop-done.invariant _ _ _ _ _ c.loop-done-test.true (slot_at_is _ _ _ _ _ _ _ _ c.in-Err-slot_in.ensures) ∙ box_course _ _ c.in-Ok.ensures _ _ c.in_default.ensures

pub loop-done-preserved : goal.loop-done-preserved
loop-done-preserved c = goes_on _ _ _ _ _ _ c.loop-done.invariant _ _ (slot_at_is _ _ _ _ _ _ _ _ c.in_default-slot_in.ensures)

pub returns : goal.returns
returns c = ends _ _ _ _ _ _ _ (omega arith) (omega arith) c.loop-done.invariant ∙ box_course _ _ c.in-Ok.ensures _ _ c.in_default.ensures
