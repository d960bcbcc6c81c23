-- `next` meets its promise: the rows so far have had their slot. Assumes nothing.
use Rattle.basis.specs.Prelude.{◌≡◌}
use Rattle.states.proofs.Names.{upto, free, next, code, given, state_of}
use Rattle.states.proofs.state.State.next.Given as goal

abbrev pub invariant-loop-i : goal.invariant-loop-i
invariant-loop-i l =
    (l.free ≡ free (given l.sheet (state_of l.initial.rows) l.releases) l.i)
    × (l.rows ≡ upto l.i (next (given l.sheet (state_of l.initial.rows) l.releases)) l.initial.rows)
    × (l.codes ≡ upto l.i (code (given l.sheet (state_of l.initial.rows) l.releases)) l.initial.codes)
