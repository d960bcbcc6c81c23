-- `write_reference` meets its promise. The invariant: what is said so far is the sections passed. Assumes nothing.
use Rattle.basis.specs.Prelude.{◌≡◌}
use Rattle.dashboard.proofs.Names.{sections, said}
use Rattle.dashboard.proofs.report.write_reference.Given as goal

abbrev pub invariant-loop-number : goal.invariant-loop-number
invariant-loop-number l = (l.text, l.next) ≡ said (l.initial.text, 0) (sections l.number)
