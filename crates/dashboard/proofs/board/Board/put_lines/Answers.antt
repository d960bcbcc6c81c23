-- `put_lines` meets its promise. The invariant: what is said so far is the lines of the rows passed. Assumes nothing.
use Rattle.basis.specs.Prelude.{refl}
use Rattle.dashboard.proofs.Names.{lines, said}
use Rattle.dashboard.proofs.Inside.Boards.{one_line}
use Rattle.dashboard.proofs.board.Board.put_lines.Goals as goal

pub loop-row-init : goal.loop-row-init
unfolding said lines
loop-row-init g c = refl

pub loop-row-preserved : goal.loop-row-preserved
loop-row-preserved g c = search one_line
