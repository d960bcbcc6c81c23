-- `add_rest` adds the rows that are left: the loop has rows that are added, and their sum reaches q × X. Assumes nothing.
use Rattle.basis.specs.Prelude.{◌-◌}
use Rattle.bound.proofs.Names.{sheet_in, held_in, Adds, Fills}
use Rattle.bound.proofs.sum.add_rest.Given as goal

abbrev pub invariant-loop-all : goal.invariant-loop-all
invariant-loop-all l = (Adds (sheet_in l.turn.sheet.now) (held_in l.turn.results.now) l.turn.k l.length l.all) × (Fills (sheet_in l.turn.sheet.now) l.turn.k l.length l.all)

abbrev pub decreases-loop-all : goal.decreases-loop-all
decreases-loop-all l = l.turn.k - l.all.rows
