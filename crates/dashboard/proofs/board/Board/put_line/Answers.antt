-- `put_line` meets its promise. Assumes nothing.
use Rattle.dashboard.proofs.Names.{line, three_said}
use Rattle.dashboard.proofs.board.Board.put_line.Goals as goal

pub returns : goal.returns
unfolding line
returns g c = search three_said
