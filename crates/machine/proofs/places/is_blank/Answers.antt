-- `is_blank` meets its promise. Assumes nothing.
use Rattle.std.proofs.lemmas.Nat.{le_or_l, le_or_r}
use Rattle.std.proofs.Common.{below_more}
use Rattle.basis.specs.Prelude.{ℕ, arith, get_or}
use Rattle.machine.proofs.places.is_blank.Goals as goal

pub loop-x-preserved : goal.loop-x-preserved
loop-x-preserved c =
    let bits = c.loop-x.bits in
    let x : ℕ = get_or c.args.part.now c.loop-x.x-index 0 in (
      λ e. below_more _ _ (c.loop-x.invariant.0 (omega (arith, le_or_l bits x))) (omega (arith, le_or_r bits x)),
      λ all. rw (c.loop-x.invariant.1 (λ k b. all k (omega arith)), all c.loop-x.x-index (omega arith)),
    )
