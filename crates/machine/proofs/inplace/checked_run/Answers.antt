-- `checked_run` meets its promise. Assumes nothing.
use Rattle.machine.proofs.Inside.Checks.{run_refused, run_11, run_15, run_in_order}
use Rattle.basis.proofs.Refusals.{passed_on}
use Rattle.machine.proofs.inplace.checked_run.Goals as goal

pub returns-in_err-sheet-clause-told : goal.returns-in_err-sheet-clause-told
returns-in_err-sheet-clause-told c = rw (passed_on _ _ c.from_residual.ensures.1) (run_refused _ _ _ _ c.in_err-sheet.ensures.told _ _)

pub returns-then-releases-sheet-ne0-clause-told : goal.returns-then-releases-sheet-ne0-clause-told
returns-then-releases-sheet-ne0-clause-told c = run_11 _ _ c.in_ok-sheet.ensures.told _ _ _ (rw c.in_ok-sheet.ensures.own at c.in_ok-sheet.sheet.counted) c.if-releases-sheet-ne0.true

pub returns-then-room-releases-clause-told : goal.returns-then-room-releases-clause-told
returns-then-room-releases-clause-told c = run_15 _ _ c.in_ok-sheet.ensures.told _ _ _ (rw c.in_ok-sheet.ensures.own at c.in_ok-sheet.sheet.counted) c.if-releases-sheet-ne0.false c.if-room-releases.true

pub returns-clause-told : goal.returns-clause-told
returns-clause-told c = run_in_order _ _ c.in_ok-sheet.ensures.told _ _ _ (rw c.in_ok-sheet.ensures.own at c.in_ok-sheet.sheet.counted) c.if-releases-sheet-ne0.false c.if-room-releases.false
