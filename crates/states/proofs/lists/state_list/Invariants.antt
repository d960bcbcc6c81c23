-- `state_list` meets its promise. Assumes nothing.
use Rattle.basis.specs.Prelude.{◌≡◌}
use Rattle.states.proofs.Names.{record_at, put_to, held}
use Rattle.states.proofs.lists.state_list.Given as goal

abbrev pub invariant-loop-i : goal.invariant-loop-i
invariant-loop-i l = l.list ≡ put_to l.i (record_at (held l.state)) l.initial.list
