-- `cells_of` meets its promise: the head and the rows so far stand in their places. Assumes nothing.
use Rattle.basis.specs.Prelude.{◌≡◌, refl, arith}
use Rattle.sheet.proofs.Names.{most_rows, upto, list_cell}
use Rattle.sheet.proofs.Inside.Stores.{row_stored}
use Rattle.sheet.proofs.writing.cells_of.Goals as goal

pub loop-k-init : goal.loop-k-init
unfolding upto list_cell
loop-k-init c = refl

pub loop-k-preserved : goal.loop-k-preserved
loop-k-preserved c = row_stored _ _ _ _ _ _ c.loop-k.invariant _ refl

pub returns : goal.returns
returns c = let e : c.loop-k.k ≡ most_rows = omega arith in rw e at c.loop-k.invariant
