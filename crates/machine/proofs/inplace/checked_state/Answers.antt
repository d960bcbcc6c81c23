-- `checked_state` meets its promise. Assumes nothing.
use Rattle.basis.specs.Prelude.{sym}
use Rattle.machine.proofs.Inside.ChecksInPlace.{in_10, in_16, in_order}
use Rattle.basis.proofs.Refusals.{passed_on}
use Rattle.machine.proofs.inplace.checked_state.Goals as goal

pub returns-in_err-sheet-clause-told : goal.returns-in_err-sheet-clause-told
returns-in_err-sheet-clause-told c = rw (passed_on _ _ c.from_residual.ensures.1) (in_10 _ _ _ _ c.in_err-sheet.ensures.told)

pub returns-then-is_legal_in-clause-told : goal.returns-then-is_legal_in-clause-told
returns-then-is_legal_in-clause-told c = rw (← c.in_ok-sheet.ensures.own) (in_order _ _ c.in_ok-sheet.sheet.fine (sym c.if-is_legal_in.ensures))

pub returns-else-is_legal_in-clause-told : goal.returns-else-is_legal_in-clause-told
returns-else-is_legal_in-clause-told c = rw (← c.in_ok-sheet.ensures.own) (in_16 _ _ c.in_ok-sheet.sheet.fine (sym c.if-is_legal_in.ensures))
