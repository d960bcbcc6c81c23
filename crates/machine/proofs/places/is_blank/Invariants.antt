-- `is_blank` meets its promise: the bits so far are none just where the numbers so far are zero. Assumes nothing.
use Rattle.basis.specs.Prelude.{ℕ, ◌≡◌, ◌<◌, ◌↔◌, get_or}
use Rattle.machine.proofs.places.is_blank.Given as goal

abbrev pub invariant-loop-x : goal.invariant-loop-x
invariant-loop-x l = (l.bits ≡ 0) ↔ ((k : ℕ) → k < l.x-index → get_or l.part k 0 ≡ 0)
