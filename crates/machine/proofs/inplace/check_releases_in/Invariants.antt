-- `check_releases_in` meets its promise. Assumes nothing.
use Rattle.basis.specs.Prelude.{◌≡◌}
use Rattle.machine.proofs.Names.{accepted, first_of, check_at, sheet_in, state_in}
use Rattle.machine.proofs.inplace.check_releases_in.Given as goal

abbrev pub invariant-loop-i : goal.invariant-loop-i
invariant-loop-i l = first_of l.i (check_at (sheet_in l.sheet.list.now) (state_in l.list) l.releases) ≡ accepted
