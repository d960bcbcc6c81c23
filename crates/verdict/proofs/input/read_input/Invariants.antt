-- `read_input` meets its promise. The invariant: the bytes read so far are in the buffer. Assumes nothing.
use Rattle.basis.specs.Prelude.{◌≤◌, ◌-◌, length}
use Rattle.verdict.proofs.input.read_input.Given as goal

abbrev pub invariant-loop-done : goal.invariant-loop-done
invariant-loop-done g l = l.done ≤ length l.buffer

abbrev pub decreases-loop-done : goal.decreases-loop-done
decreases-loop-done g l = length l.buffer - l.done
