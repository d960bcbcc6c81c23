-- `fill` meets its promise. The invariant: what was read so far is in the buffer. Assumes nothing.
use Rattle.basis.specs.Prelude.{◌≤◌, ◌-◌, ◌≡◌, length}
use Rattle.play.proofs.source.fill.Given as goal

abbrev pub invariant-loop-count : goal.invariant-loop-count
invariant-loop-count g l = (l.count ≤ length l.buffer) × (length l.buffer ≡ length l.initial.buffer)

abbrev pub decreases-loop-count : goal.decreases-loop-count
decreases-loop-count g l = length l.buffer - l.count
