-- `put_part` meets its promise. Assumes nothing.
use Rattle.basis.specs.Prelude.{refl, arith, length-set}
use Rattle.reader.proofs.Names.{put_part}
use Rattle.reader.proofs.rows.put_part.Goals as goal

pub bounds-labels-k-2 : goal.bounds-labels-k-2
unfolding put_part
bounds-labels-k-2 c = simp length-set (omega arith)

pub returns : goal.returns
unfolding put_part
returns c = refl
