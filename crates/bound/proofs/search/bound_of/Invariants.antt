-- `bound_of` is the smallest length that passes: the smallest from this length on is the smallest of all. Assumes nothing.
use Rattle.basis.specs.Prelude.{◌≤◌, ◌-◌, ◌+◌, ◌≡◌}
use Rattle.bound.proofs.Names.{row_at, sheet_in, passes, least, passes_at, bound_by, held_in}
use Rattle.bound.proofs.search.bound_of.Given as goal

abbrev pub invariant-loop-row : goal.invariant-loop-row
invariant-loop-row l =
    ((row_at (sheet_in l.turn.sheet.now) l.turn.k).budget ≤ l.at.length.0)
    × (least (passes_at passes (sheet_in l.turn.sheet.now) (held_in l.turn.results.now) l.turn.k) l.at.length.0 ((row_at (sheet_in l.turn.sheet.now) l.turn.k).deadline + 1 - l.at.length.0) ≡ bound_by passes (sheet_in l.turn.sheet.now) (held_in l.turn.results.now) l.turn.k)

abbrev pub decreases-loop-row : goal.decreases-loop-row
decreases-loop-row l = (row_at (sheet_in l.turn.sheet.now) l.turn.k).deadline + 1 - l.at.length.0
