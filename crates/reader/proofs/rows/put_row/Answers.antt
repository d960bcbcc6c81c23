-- `put_row` meets its promise. Assumes nothing.
use Rattle.basis.specs.Prelude.{refl, arith, length-set}
use Rattle.reader.proofs.Names.{put_row}
use Rattle.reader.proofs.rows.put_row.Goals as goal

pub bounds-list-k-2 : goal.bounds-list-k-2
unfolding put_row
bounds-list-k-2 c = simp length-set (omega arith)

pub bounds-list-k-3 : goal.bounds-list-k-3
unfolding put_row
bounds-list-k-3 c = simp length-set (omega arith)

pub bounds-list-k-4 : goal.bounds-list-k-4
unfolding put_row
bounds-list-k-4 c = simp length-set (omega arith)

pub returns : goal.returns
unfolding put_row
returns c = refl
