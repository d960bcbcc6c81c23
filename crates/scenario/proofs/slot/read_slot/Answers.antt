-- `read_slot` meets its promise. Assumes nothing.
use Rattle.basis.proofs.Refusals.{passed_on}
use Rattle.scenario.proofs.Inside.Slotwise.{slot_illegal, slot_legal}
use Rattle.scenario.proofs.slot.read_slot.Goals as goal

pub returns-in_err-rows : goal.returns-in_err-rows
returns-in_err-rows c = rw (passed_on _ _ c.from_residual.ensures.1) (slot_illegal _ _ _ _ c.in_err-rows.ensures)

pub returns-in_err-next : goal.returns-in_err-next
returns-in_err-next c = rw (passed_on _ _ c.from_residual-in_err-next.ensures.1) (slot_legal _ _ _ _ c.in_ok-rows.ensures _ c.in_err-next.ensures)

pub returns : goal.returns
returns c = slot_legal _ _ _ _ c.in_ok-rows.ensures _ c.in_ok-next.ensures
