-- `check_slot` meets its promise: none of the entries so far is over. Assumes nothing.
use Rattle.basis.specs.Prelude.{◌≡◌}
use Rattle.scenario.proofs.Names.{sheet_in, accepted, first_of, over_at}
use Rattle.scenario.proofs.writer.check_slot.Given as goal

abbrev pub invariant-loop-row : goal.invariant-loop-row
invariant-loop-row l = first_of l.row (over_at (sheet_in l.rows.sheet.now) l.slot) ≡ accepted
