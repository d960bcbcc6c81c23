-- `number_length` meets its promise. The invariant: the groups passed, and those of what is left, are the width. Assumes nothing.
use Rattle.basis.specs.Prelude.{◌-◌}
use Rattle.numbers.proofs.Names.{most_groups}
use Rattle.numbers.proofs.Inside.Writing.{Measured}
use Rattle.numbers.proofs.writing.number_length.Given as goal

abbrev pub invariant-loop-i : goal.invariant-loop-i
invariant-loop-i l = Measured l.value l.v l.i (most_groups - l.i)
