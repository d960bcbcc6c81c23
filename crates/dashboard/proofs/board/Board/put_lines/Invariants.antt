-- `put_lines` meets its promise. The invariant: what is said so far is the lines of the rows passed. Assumes nothing.
use Rattle.basis.specs.Prelude.{◌≡◌}
use Rattle.dashboard.proofs.Names.{word_at, lines, said}
use Rattle.dashboard.proofs.board.Board.put_lines.Given as goal

abbrev pub invariant-loop-row : goal.invariant-loop-row
invariant-loop-row g l = (l.text, l.next) ≡ said (l.initial.text, l.at) (lines (g.L.Labels.label l.self.labels) (word_at l.self.results.now) l.row)
