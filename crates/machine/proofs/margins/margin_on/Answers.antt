-- `margin_on` meets its promise. Assumes nothing.
use Rattle.basis.specs.Prelude.{◌<◌, arith}
use Rattle.machine.proofs.Inside.MarginAnswers.{margin_record_there, small_deadline, listed_since, listed_remaining, margin_unchecked, margin_missing, listed_margin}
use Rattle.basis.proofs.Refusals.{passed_on}
use Rattle.machine.proofs.Names.{sheet_in}
use Rattle.machine.proofs.margins.margin_on.Goals as goal

pub returns-in_err-sheet : goal.returns-in_err-sheet
returns-in_err-sheet c = rw (passed_on _ _ c.from_residual.ensures.1) (margin_unchecked _ _ _ _ _ c.in_err-sheet.ensures.told)

pub returns-then-sheet-row : goal.returns-then-sheet-row
returns-then-sheet-row c = let known = rw c.in_ok-sheet.ensures.own at c.in_ok-sheet.sheet.counted in margin_missing _ _ _ c.in_ok-sheet.ensures.told (omega arith)

pub record_in-requires : goal.record_in-requires
record_in-requires c =
    let told = rw (← c.in_ok-sheet.ensures.own) at c.in_ok-sheet.ensures.told in
    (omega arith, margin_record_there _ _ _ told (omega arith))

pub margin_of-requires : goal.margin_of-requires
margin_of-requires c =
    let told = rw (← c.in_ok-sheet.ensures.own) at c.in_ok-sheet.ensures.told in
    let there : c.args.row < (sheet_in c.in_ok-sheet.sheet.list.now).count = omega arith in
    (small_deadline _ _ _ told there _ c.row.ensures, listed_since _ _ _ told there _ c.record_in.ensures, listed_remaining _ _ _ told there _ c.record_in.ensures)

pub returns : goal.returns
returns c =
    let told = rw (← c.in_ok-sheet.ensures.own) at c.in_ok-sheet.ensures.told in
    rw (← c.in_ok-sheet.ensures.own) (listed_margin _ _ _ told (omega arith) _ c.record_in.ensures _ c.row.ensures _ c.margin_of.ensures)
