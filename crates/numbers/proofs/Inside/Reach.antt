-- A number is tame: it takes no more bytes than its limit, its refusals are 2 and 3 and the two of its range, and no other byte counts. Assumes nothing.
use Rattle.basis.specs.Prelude.{ℕ, zero, suc, ◌+◌, ◌-◌, ◌*◌, ◌≤◌, arith, ltb, eqb, leb}
use Rattle.numbers.proofs.Names.{most_groups, byte, groups, number, up_to_by, up_to, width}
use Rattle.basis.proofs.Tame.{Tame, tame_give, tame_more, tame_here, tame_refuse, tame_pick, tame_then, tame_byte}
use Rattle.numbers.proofs.Inside.Bounds.{spelt_grows, bounded}

tame_groups : (g first least : ℕ) → Tame first (groups g first least) g g
unfolding groups
tame_groups zero first least = tame_refuse first 3 0 0 (omega arith) (omega arith)
tame_groups (suc g) first least =
    tame_more (suc g) (suc g) (omega arith) (omega arith) (tame_then byte _ tame_byte (λ s at b n l e. tame_pick (ltb b 128) _ _
    (tame_pick (ltb b least) _ _ (tame_refuse first 3 g g (omega arith) (omega arith)) (tame_more g g (omega arith) (omega arith) (tame_give b)))
    (tame_more g g (omega arith) (omega arith) (tame_then (groups g first 1) _ (tame_groups g first 1) (λ s₁ at₁ v n₁ l₁ e₁. tame_give (b - 128 + 128 * v)) (omega arith))))
    (omega arith))

pub tame_up_to : {o : ℕ} (most under beyond : ℕ) → 3 ≤ under → under ≤ 9 → 3 ≤ beyond → beyond ≤ 9 → Tame o (up_to most under beyond) most_groups (width most)
unfolding up_to_by width
tame_up_to {o} most under beyond u₁ u₂ o₁ o₂ =
    let T : Tame o (up_to most under beyond) most_groups most_groups =
    tame_here _ (λ first. tame_then number _ (tame_here _ (λ p. tame_groups most_groups p 0)) (λ s at v n l e.
    tame_pick (eqb v 0) _ _ (tame_refuse first under 0 0 u₁ u₂) (tame_pick (leb v most) _ _ (tame_give v) (tame_refuse first beyond 0 0 o₁ o₂))) (omega arith)) in
    record {
      ends = λ s at v n l e. let r = bounded most under beyond s at v n e in (omega (arith, spelt_grows most_groups v most r.not_over), r.in_bytes);
      refuses = T.refuses;
      alike = T.alike;
    }

-- a smaller limit takes no more bytes
pub width_grows : (u v : ℕ) → u ≤ v → width u ≤ width v
unfolding width
width_grows u v h = spelt_grows most_groups u v h
