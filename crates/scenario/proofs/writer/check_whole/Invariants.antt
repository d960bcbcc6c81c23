-- `check_whole` meets its promise: no entry of the slots so far is over. Assumes nothing.
use Rattle.basis.specs.Prelude.{◌≡◌}
use Rattle.std.specs.Slice.Iter.{chunks_exact_rest, chunks_exact_size}
use Rattle.scenario.proofs.Names.{sheet_in}
use Rattle.scenario.proofs.Inside.Checks.{Passed}
use Rattle.scenario.proofs.writer.check_whole.Given as goal

abbrev pub invariant-loop-slot : goal.invariant-loop-slot
invariant-loop-slot l =
    (chunks_exact_size l.slot-iterator ≡ (sheet_in l.rows.sheet.now).count) × Passed (sheet_in l.rows.sheet.now) l.releases (chunks_exact_rest l.slot-iterator)
