-- `sheet_in` meets its promise: the rows so far are those of the list. Assumes nothing.
use Rattle.basis.specs.Prelude.{◌≡◌}
use Rattle.sheet.proofs.Names.{most_rows, upto, no_rows, row_in}
use Rattle.sheet.proofs.reading.sheet_in.Given as goal

abbrev pub invariant-loop-i : goal.invariant-loop-i
invariant-loop-i l = l.row-items ≡ upto l.i (row_in l.list) (no_rows most_rows)
