-- `checked` meets its promise. Assumes nothing.
use Rattle.basis.specs.Prelude.{sym, arith}
use Rattle.machine.proofs.Names.{legal_is, legal_sheet_long, sheet_in}
use Rattle.machine.proofs.sheets.LegalSheet.checked.Goals as goal

pub invariant_of-result : goal.invariant_of-result
invariant_of-result c =
    let fine = sym c.if-is_legal.ensures in
    let ranges = legal_is (sheet_in c.args.list.now) fine in
    record {
      fine = fine;
      counted = c.count.ensures;
      some = omega (arith, ranges.some_rows);
      few = omega (arith, ranges.at_most_rows);
      whole = legal_sheet_long c.args.list.now c.count.result fine c.count.ensures;
    }
