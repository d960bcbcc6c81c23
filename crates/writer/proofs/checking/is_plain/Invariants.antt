-- `is_plain` meets its promise: the bytes so far are such. Assumes nothing.
use Rattle.basis.specs.Prelude.{◌≡◌, true}
use Rattle.writer.proofs.Names.{all_of, plain_at}
use Rattle.writer.proofs.checking.is_plain.Given as goal

abbrev pub invariant-loop-b : goal.invariant-loop-b
invariant-loop-b l = all_of l.b-index (plain_at l.label) ≡ true
