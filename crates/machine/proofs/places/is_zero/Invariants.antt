-- `is_zero` meets its promise: all of the list is zero just where all that is left of it is. Assumes nothing.
use Rattle.basis.specs.Prelude.{◌↔◌}
use Rattle.std.specs.Slice.Iter.{chunks_rest}
use Rattle.machine.proofs.Inside.Zeros.{Blank}
use Rattle.machine.proofs.places.is_zero.Given as goal

abbrev pub invariant-loop-part : goal.invariant-loop-part
invariant-loop-part l = Blank (chunks_rest l.part-iterator) ↔ Blank l.list
