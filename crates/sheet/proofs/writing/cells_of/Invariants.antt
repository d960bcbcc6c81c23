-- `cells_of` meets its promise: the head and the rows so far stand in their places. Assumes nothing.
use Rattle.basis.specs.Prelude.{◌≡◌, replicate}
use Rattle.sheet.proofs.Names.{most_rows, upto, sheet_cell, sheet_long}
use Rattle.sheet.proofs.writing.cells_of.Given as goal

abbrev pub invariant-loop-k : goal.invariant-loop-k
invariant-loop-k l = l.cells ≡ upto (sheet_long l.k) (sheet_cell l.sheet) (replicate (sheet_long most_rows) 0)
