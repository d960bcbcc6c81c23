-- `rows_are_legal` says whether all rows are: the loop has found the first i so. Assumes nothing.
use Rattle.basis.specs.Prelude.{◌≡◌, true}
use Rattle.sheet.proofs.Names.{all_of, sheet_in, legal_rows}
use Rattle.sheet.proofs.legal.rows_are_legal.Given as goal

abbrev pub invariant-loop-i : goal.invariant-loop-i
invariant-loop-i l = true ≡ all_of l.i (legal_rows l.processors (sheet_in l.list))
