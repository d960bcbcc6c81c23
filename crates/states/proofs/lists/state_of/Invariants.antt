-- `state_of` meets its promise. Assumes nothing.
use Rattle.basis.specs.Prelude.{◌≡◌}
use Rattle.states.proofs.Names.{upto, record_in}
use Rattle.states.proofs.lists.state_of.Given as goal

abbrev pub invariant-loop-i : goal.invariant-loop-i
invariant-loop-i l = l.rows ≡ upto l.i (record_in l.list) l.initial.rows
