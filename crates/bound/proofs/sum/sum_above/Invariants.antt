-- `sum_above` adds rows until their sum reaches q × X, and its yes or no is the test's. Assumes nothing.
use Rattle.basis.specs.Prelude.{◌-◌}
use Rattle.bound.proofs.Names.{sheet_in, held_in, Adds}
use Rattle.bound.proofs.sum.sum_above.Given as goal

abbrev pub invariant-loop-added : goal.invariant-loop-added
invariant-loop-added l = Adds (sheet_in l.turn.sheet.now) (held_in l.turn.results.now) l.turn.k l.length l.added

abbrev pub decreases-loop-added : goal.decreases-loop-added
decreases-loop-added l = l.turn.k - l.added.rows
