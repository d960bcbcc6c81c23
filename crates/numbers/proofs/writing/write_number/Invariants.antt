-- `write_number` meets its promise. The invariant: what is still to be written, over what is stored, is the whole. Assumes nothing.
use Rattle.basis.specs.Prelude.{◌-◌}
use Rattle.numbers.proofs.Names.{most_groups}
use Rattle.numbers.proofs.Inside.Writing.{Measured, Stored}
use Rattle.numbers.proofs.writing.write_number.Given as goal

abbrev pub invariant-loop-i : goal.invariant-loop-i
invariant-loop-i l = Measured l.value l.v l.i (most_groups - l.i) × Stored l.initial.bytes l.at l.value l.bytes l.v l.i (most_groups - l.i)
