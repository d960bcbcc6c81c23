-- `is_legal_in` meets its promise. Assumes nothing.
use Rattle.basis.specs.Prelude.{◌≡◌, true}
use Rattle.machine.proofs.Names.{all_of, sheet_in}
use Rattle.machine.proofs.Inside.LegalChecks.{legal_in}
use Rattle.machine.proofs.places.is_legal_in.Given as goal

abbrev pub invariant-loop-i : goal.invariant-loop-i
invariant-loop-i l = true ≡ all_of l.i (legal_in (sheet_in l.sheet.list.now) l.list)
