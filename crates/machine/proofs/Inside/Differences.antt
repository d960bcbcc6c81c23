-- Signed differences of numbers that are small beside the width: what the code computes is the difference itself. Assumes nothing.
use Rattle.basis.specs.Prelude.{ℕ, zero, suc, ◌+◌, ◌-◌, ◌*◌, ◌≤◌, ◌<◌, ◌^◌, ◌≡◌, refl, sym, ap, ap₂, ◌∙◌, Bool, true, false, cond, arith, ltb, lt-ltb, le-ltb, w64}
use lib.IntN.{ℤ, pos, negsuc, neg_ℤ, sub_ℕ, ◌+ℤ◌, ◌-ℤ◌, +ℤ_assoc, neg_ℤ-+ℤ}
use lib.Signed.{mag}
use mir.Val.{SFits, to_z}
use Rattle.basis.specs.Limits.{most_separation}

-- a number is itself
to_itself : (a : ℕ) → a < 2 ^ 63 → to_z w64 a ≡ pos a
to_itself a l = rw (lt-ltb a (2 ^ 63) l)

-- the difference of two numbers, by which is the less
pub less : (a b : ℕ) → pos a -ℤ pos b ≡ sub_ℕ a b
less a zero = rw (le-ltb a 0 (omega arith)) (ap pos (omega arith))
less a (suc b) = refl

pub less_twice : (a b c : ℕ) → (pos a -ℤ pos b) -ℤ pos c ≡ sub_ℕ a (b + c)
less_twice a b c = +ℤ_assoc (pos a) (neg_ℤ (pos b)) (neg_ℤ (pos c)) ∙ ap (λ (z : ℤ). pos a +ℤ z) (sym (neg_ℤ-+ℤ (pos b) (pos c))) ∙ less a (b + c)

small : (a b m : ℕ) → a < m → b < m → mag (sub_ℕ a b) < m
small a b m k l = go (ltb a b) refl
  where
    go : (t : Bool) → ltb a b ≡ t → mag (cond t (negsuc (b - suc a)) (pos (a - b))) < m
    go true e = omega arith
    go false e = omega arith

module _ (a b : ℕ) (k : a ≤ most_separation) (l : b ≤ 2 * most_separation) where
  pub themselves : to_z w64 a -ℤ to_z w64 b ≡ sub_ℕ a b
  themselves = ap₂ (λ (x : ℤ) (y : ℤ). x -ℤ y) (to_itself a (omega arith)) (to_itself b (omega arith)) ∙ less a b

  pub difference_fits : SFits w64 (to_z w64 a -ℤ to_z w64 b)
  difference_fits = rw themselves (record { sfits = small a b (2 ^ 63) (omega arith) (omega arith) })
