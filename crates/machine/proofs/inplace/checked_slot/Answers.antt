-- `checked_slot` meets its promise. Assumes nothing.
use Rattle.basis.specs.Prelude.{arith}
use Rattle.machine.proofs.Inside.Checks.{slot_refused, slot_11, slot_15, slot_rows, checked_legal}
use Rattle.basis.proofs.Refusals.{passed_on}
use Rattle.machine.proofs.inplace.checked_slot.Goals as goal

pub returns-in_err-sheet-clause-told : goal.returns-in_err-sheet-clause-told
returns-in_err-sheet-clause-told c = rw (passed_on _ _ c.from_residual.ensures.1) (slot_refused _ _ _ _ c.in_err-sheet.ensures.told _ _)

pub returns-then-releases-sheet-clause-told : goal.returns-then-releases-sheet-clause-told
returns-then-releases-sheet-clause-told c = slot_11 _ _ c.in_ok-sheet.ensures.told _ _ _ (rw c.in_ok-sheet.ensures.own at c.in_ok-sheet.sheet.counted) c.if-releases-sheet.true

pub returns-then-room-releases-clause-told : goal.returns-then-room-releases-clause-told
returns-then-room-releases-clause-told c = slot_15 _ _ c.in_ok-sheet.ensures.told _ _ _ (rw c.in_ok-sheet.ensures.own at c.in_ok-sheet.sheet.counted) c.if-releases-sheet.false c.if-room-releases.true

pub check_releases_in-requires : goal.check_releases_in-requires
check_releases_in-requires c = (rw c.in_ok-sheet.ensures.own (checked_legal _ _ c.in_ok-sheet.ensures.told), omega arith)

pub returns-in_err-check_releases_in-clause-told : goal.returns-in_err-check_releases_in-clause-told
returns-in_err-check_releases_in-clause-told c =
    rw (passed_on _ _ c.from_residual-in_err-check_releases_in.ensures.1)
    (slot_rows _ _ c.in_ok-sheet.ensures.told _ _ _ (rw c.in_ok-sheet.ensures.own at c.in_ok-sheet.sheet.counted) _ c.if-releases-sheet.false c.if-room-releases.false
    (rw c.in_ok-sheet.ensures.own at c.in_err-check_releases_in.ensures))

pub returns-clause-told : goal.returns-clause-told
returns-clause-told c =
    slot_rows _ _ c.in_ok-sheet.ensures.told _ _ _ (rw c.in_ok-sheet.ensures.own at c.in_ok-sheet.sheet.counted) _ c.if-releases-sheet.false c.if-room-releases.false
    (rw c.in_ok-sheet.ensures.own at c.in_ok-check_releases_in.ensures)
