-- `checked` meets its promise. Assumes nothing.
use Rattle.basis.specs.Prelude.{sym}
use Rattle.writer.proofs.Names.{passed_on}
use Rattle.writer.proofs.Inside.Checks.{few_rows, sheet_illegal, sheet_legal}
use Rattle.writer.proofs.checking.Source.checked.Goals as goal

pub returns-then-not-is_legal-clause-told : goal.returns-then-not-is_legal-clause-told
returns-then-not-is_legal-clause-told c = search sheet_illegal

pub check_labels-requires : goal.check_labels-requires
check_labels-requires c = search few_rows

pub returns-in_err-check_labels-clause-told : goal.returns-in_err-check_labels-clause-told
returns-in_err-check_labels-clause-told c =
    rw (passed_on _ _ c.from_residual.ensures.1) (sheet_legal _ _ _ _ c.is_legal.ensures c.if-not-is_legal.false _ c.count-rows.ensures _ c.in_err-check_labels.ensures)

pub invariant_of-result : goal.invariant_of-result
invariant_of-result c =
    let fine = sheet_legal _ c.args.bytes.now c.args.labels.now _ c.is_legal.ensures c.if-not-is_legal.false _ c.count-rows.ensures _ c.in_ok-check_labels.ensures in
    record { counted = c.count-rows.ensures; few = search few_rows; fine = sym fine }
