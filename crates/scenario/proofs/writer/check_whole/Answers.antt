-- `check_whole` meets its promise: no entry of the slots so far is over. Assumes nothing.
use Rattle.basis.specs.Prelude.{◌∙◌, arith}
use Rattle.basis.proofs.Refusals.{passed_on}
use Rattle.scenario.proofs.Names.{sheet_in}
use Rattle.scenario.proofs.Inside.Checks.{none_passed, slot_passed, slot_over, all_passed, list_uneven, list_even, list_checked}
use Rattle.scenario.proofs.writer.check_whole.Goals as goal

pub returns-then-releases-rows-ne0 : goal.returns-then-releases-rows-ne0
returns-then-releases-rows-ne0 c = list_uneven _ _ _ c.args.rows.now.counted c.if-releases-rows-ne0.true

pub loop-slot-init : goal.loop-slot-init
loop-slot-init c =
    rw (c.into_iter-slot-iterator.ensures.into_iter_gives, c.chunks_exact-slot-items.ensures.rest, c.chunks_exact-slot-items.ensures.size) (c.args.rows.now.counted, none_passed _ _)

pub returns-in_err-check_slot : goal.returns-in_err-check_slot
returns-in_err-check_slot c =
    let steps = c.in-Some.ensures.steps in
    rw (passed_on _ _ c.from_residual.ensures.1)
    (list_checked _ _ _ c.args.rows.now.counted c.if-releases-rows-ne0.false _ (slot_over _ _ _ c.loop-slot.invariant.1 _ _ steps.1.0 (steps.1.1 ∙ c.loop-slot.invariant.0) _ _ c.in_err-check_slot.ensures))

pub loop-slot-preserved : goal.loop-slot-preserved
loop-slot-preserved c =
    let steps = c.in-Some.ensures.steps in
    (steps.0 ∙ c.loop-slot.invariant.0, slot_passed _ _ _ c.loop-slot.invariant.1 _ _ steps.1.0 (steps.1.1 ∙ c.loop-slot.invariant.0) c.in_ok-check_slot.ensures)

pub returns : goal.returns
returns c =
    list_checked _ _ _ c.args.rows.now.counted c.if-releases-rows-ne0.false _
    (all_passed _ _ _ c.loop-slot.invariant.1 (omega (arith, c.in-None.ensures.steps.1.0, c.loop-slot.invariant.0)) (list_even (sheet_in c.args.rows.now.sheet.now) _ _ c.args.rows.now.counted c.if-releases-rows-ne0.false))
