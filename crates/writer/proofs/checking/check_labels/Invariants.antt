-- `check_labels` meets its promise: none of the rows so far is refused. Assumes nothing.
use Rattle.basis.specs.Prelude.{◌≡◌}
use Rattle.writer.proofs.Names.{accepted, first_of, label_at}
use Rattle.writer.proofs.checking.check_labels.Given as goal

abbrev pub invariant-loop-row : goal.invariant-loop-row
invariant-loop-row l = first_of l.row (label_at l.bytes l.labels) ≡ accepted
