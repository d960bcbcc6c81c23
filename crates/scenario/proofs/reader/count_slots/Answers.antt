-- `count_slots` meets its promise. The invariant: what is still to be counted, and the count, is the whole. Assumes nothing.
use Rattle.basis.proofs.Refusals.{passed_on}
use Rattle.scenario.proofs.Inside.Counting.{none_counted, counted, count_no, count_less, count_more}
use Rattle.scenario.proofs.reader.count_slots.Goals as goal

pub loop-next-init : goal.loop-next-init
loop-next-init c = none_counted _ _

pub returns-in_err-next : goal.returns-in_err-next
returns-in_err-next c = rw (passed_on _ _ c.from_residual.ensures.1) (count_no _ _ _ _ c.loop-next.invariant c.loop-next-test.true _ _ _ c.in_err-next.ensures)

pub loop-next-smaller : goal.loop-next-smaller
loop-next-smaller c = count_less _ _ _ _ c.loop-next.invariant c.loop-next-test.true _ _ _ c.in_ok-next.ensures

pub loop-next-preserved : goal.loop-next-preserved
loop-next-preserved c = count_more _ _ _ _ c.loop-next.invariant c.loop-next-test.true _ _ _ c.in_ok-next.ensures

pub returns : goal.returns
returns c = counted _ _ _ _ c.loop-next.invariant c.loop-next-test.false
