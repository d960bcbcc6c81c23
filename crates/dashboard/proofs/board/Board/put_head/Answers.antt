-- `put_head` meets its promise. Assumes nothing.
use Rattle.dashboard.proofs.Names.{line_start, four_said}
use Rattle.dashboard.proofs.board.Board.put_head.Goals as goal

pub returns : goal.returns
unfolding line_start
returns g c = search four_said
