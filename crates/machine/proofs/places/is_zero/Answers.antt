-- `is_zero` meets its promise: a part that is all zero is taken off. Assumes nothing.
use Rattle.machine.proofs.Inside.Zeros.{Blank, blank_rest, blank_both}
use Rattle.machine.proofs.places.is_zero.Goals as goal

pub loop-part-preserved : goal.loop-part-preserved
loop-part-preserved c =
    let steps = c.in-Some.ensures.steps in
    let zero : Blank c.in-Some.part.now = c.is_blank.ensures.0 c.if-not-is_blank.false in
    (λ b. c.loop-part.invariant.0 (blank_both _ _ _ steps.1.0 zero b), λ b. blank_rest _ _ _ steps.1.0 (c.loop-part.invariant.1 b))
