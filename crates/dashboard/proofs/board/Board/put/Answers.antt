-- `put` meets its promise: the lines, then the last one. Assumes nothing.
use Rattle.dashboard.proofs.Names.{two_said}
use Rattle.dashboard.proofs.board.Board.put.Goals as goal

pub returns : goal.returns
returns g c = search two_said
