-- `slot_in` meets its promise. Assumes nothing.
use Rattle.basis.proofs.Refusals.{passed_on}
use Rattle.aboard.proofs.lent.slot_in.Goals as goal

pub returns-in_err-state : goal.returns-in_err-state
returns-in_err-state c = rw (passed_on _ _ c.from_residual.ensures.1) c.in_err-state.ensures
