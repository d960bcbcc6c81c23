-- `slot_on` meets its promise. Assumes nothing.
use Rattle.machine.proofs.Inside.Answers.{slot_state, rows_in_list, rows_in_buffer}
use Rattle.machine.proofs.SlotsInPlace.{slot_in_refused, slot_in_accepted}
use Rattle.basis.proofs.Refusals.{passed_on}
use Rattle.machine.proofs.inplace.slot_on.Goals as goal

pub returns-in_err-sheet : goal.returns-in_err-sheet
returns-in_err-sheet c = rw (passed_on _ _ c.from_residual.ensures.1) (slot_in_refused _ _ _ _ _ _ c.in_err-sheet.ensures.told)

pub step_rows-requires : goal.step_rows-requires
step_rows-requires c =
    let told = rw (← c.in_ok-sheet.ensures.own) at c.in_ok-sheet.ensures.told in
    (slot_state _ _ _ _ told, rows_in_list _ _ _ _ told _ c.in_ok-sheet.sheet.counted, rows_in_buffer _ _ _ _ told _ c.in_ok-sheet.sheet.counted)

pub returns : goal.returns
returns c =
    let told = rw (← c.in_ok-sheet.ensures.own) at c.in_ok-sheet.ensures.told in
    rw (← c.in_ok-sheet.ensures.own) (slot_in_accepted _ _ _ _ c.in_ok-sheet.sheet.fine told _ c.in_ok-sheet.sheet.counted _ _ c.step_rows.ensures.0 c.step_rows.ensures.1)
