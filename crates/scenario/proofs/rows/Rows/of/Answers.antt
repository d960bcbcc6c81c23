-- `of` meets its promise: a sheet in the ranges has a row, and no more than the most. Assumes nothing.
use Rattle.basis.specs.Prelude.{sym, ◌∙◌, arith}
use Rattle.scenario.proofs.Names.{legal_is}
use Rattle.sheet.proofs.Ranges.{legal_sheet_long}
use Rattle.scenario.proofs.rows.Rows.of.Goals as goal

pub invariant_of-result : goal.invariant_of-result
invariant_of-result c =
    let legal = sym c.is_legal.ensures ∙ c.if-not-is_legal.false in
    let fine = legal_is _ legal in
    record {
      counted = c.count-count.ensures;
      some = omega (arith, fine.some_rows);
      few = omega (arith, fine.at_most_rows);
      whole = legal_sheet_long _ _ legal c.count-count.ensures;
    }
