-- `put_state` meets its promise: the places so far are filled. Assumes nothing.
use Rattle.basis.specs.Prelude.{◌≡◌, length}
use Rattle.exports.proofs.Names.{upto, held, state_cell}
use Rattle.exports.proofs.boxes.put_state.Given as goal

abbrev pub invariant-loop-at : goal.invariant-loop-at
invariant-loop-at l = (length l.list ≡ length l.initial.list) × (l.list ≡ upto l.at (state_cell (held l.state)) l.initial.list)
