-- `put_result` meets its promise: each word. Assumes nothing.
use Rattle.dashboard.proofs.Inside.Boards.{unreached_said, bound_said, none_said}
use Rattle.dashboard.proofs.board.Board.put_result.Goals as goal

pub returns-in-0 : goal.returns-in-0
returns-in-0 g c = search unreached_said

pub returns-in-1 : goal.returns-in-1
returns-in-1 g c = search bound_said

pub returns-in_default : goal.returns-in_default
returns-in_default g c = search none_said
