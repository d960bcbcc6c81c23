-- `put_bytes` meets its promise: the bytes so far are stored. Assumes nothing.
use Rattle.basis.specs.Prelude.{◌+◌, ◌≡◌, length, drop, sets}
use Rattle.basis.proofs.stored.put_bytes.Given as goal

abbrev pub invariant-loop-i : goal.invariant-loop-i
invariant-loop-i l = (length l.buffer ≡ length l.initial.buffer) × (sets l.initial.buffer l.at l.bytes ≡ sets l.buffer (l.at + l.i) (drop l.i l.bytes))
