-- `slot_at` meets its promise. Assumes nothing.
use Rattle.basis.proofs.Refusals.{passed_on}
use Rattle.scenario.proofs.Inside.Slotwise.{slot_none, slot_some}
use Rattle.scenario.proofs.slot.slot_at.Goals as goal

pub returns-in_err-count : goal.returns-in_err-count
returns-in_err-count c = rw (passed_on _ _ c.from_residual.ensures.1) (slot_none _ _ _ _ _ _ c.in_err-count.ensures)

pub returns : goal.returns
returns c = rw (slot_some _ _ _ _ _ _ c.in_ok-count.ensures) c.read_releases.ensures
