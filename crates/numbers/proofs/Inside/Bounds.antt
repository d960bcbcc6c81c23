-- What is known of a number that was read: its bounds, and the places. Assumes nothing.
use Rattle.basis.specs.Prelude.{ℕ, zero, suc, ◌+◌, ◌/◌, ◌≤◌, ◌<◌, ◌≡◌, ap, ◌∙◌, ⊎_elim, List, arith, length, eqb, leb, eqb-false, leb-true}
use Rattle.numbers.proofs.Names.{ok, give, most_groups, groups, spelt, number, up_to_by, up_to, lt_or_le, never_ok, after_ok, ok_same, passed, not_stopped}
use Rattle.numbers.proofs.Inside.Groups.{over, by_group}
use Rattle.numbers.proofs.OneSpelling.{spelt_one, spelt_more_lem}

-- a larger value takes no fewer groups
pub spelt_grows : (g u v : ℕ) → u ≤ v → length (spelt g u) ≤ length (spelt g v)
unfolding spelt
spelt_grows zero u v h = omega arith
spelt_grows (suc g) u v h =
    ⊎_elim (λ a. ⊎_elim (λ b. omega (arith, ap length (spelt_one g u a), ap length (spelt_one g v b)))
    (λ b. omega (arith, ap length (spelt_one g u a), ap length (spelt_more_lem g v b))) (lt_or_le v 128))
    (λ a. omega (arith, ap length (spelt_more_lem g u a), ap length (spelt_more_lem g v (omega arith)), spelt_grows g (u / 128) (v / 128) (omega arith)))
    (lt_or_le u 128)

-- a number that was read ends within the bytes, and takes as many as its value does
pub record Taken (g least : ℕ) (s : List ℕ) (at v n : ℕ) : Type 0 where
  pub some_bytes : at < n
  pub in_bytes : n ≤ length s
  pub not_less : least ≤ v
  pub no_more : n ≤ at + length (spelt g v)

pub taken : (g first least : ℕ) (s : List ℕ) (at v n : ℕ) → least ≤ 1 → groups g first least s at ≡ ok v n → Taken g least s at v n
taken zero first least s at v n l e = absurd (never_ok (over 0 first least s at (omega arith)) e)
taken (suc g) first least s at v n l e =
    by_group g first least s at e
    (λ h m b ev en. record { some_bytes = omega arith; in_bytes = omega arith; not_less = omega arith; no_more = omega (arith, ap length (spelt_one g v (omega arith))) })
    (λ h b u e₁ ev.
    let r = taken g first 1 s (at + 1) u n (omega arith) e₁ in
    let few = spelt_grows g u (v / 128) (omega arith) in
    record { some_bytes = omega arith; in_bytes = omega arith; not_less = omega arith; no_more = omega (arith, ap length (spelt_more_lem g v (omega arith))) })

pub record Bounded (most : ℕ) (s : List ℕ) (at v n : ℕ) : Type 0 where
  pub read : number s at ≡ ok v n
  pub positive : 0 < v
  pub not_over : v ≤ most
  pub some_bytes : at < n
  pub in_bytes : n ≤ length s
  pub no_more : n ≤ at + length (spelt most_groups v)

pub bounded : (most under beyond : ℕ) (s : List ℕ) (at v n : ℕ) → up_to most under beyond s at ≡ ok v n → Bounded most s at v n
unfolding up_to_by
bounded most under beyond s at v n e =
    after_ok (number s at) _ e λ u m eu e₁.
    let nz = not_stopped _ under at s m (eqb u 0) e₁ in
    let le = passed (give u) beyond at s m (leb u most) nz.1 in
    let (ev, en) = ok_same le.1 in
    let r = taken most_groups at 0 s at v n (omega arith) (eu ∙ le.1) in
    record { read = eu ∙ le.1; positive = omega (arith, eqb-false u 0 nz.0); not_over = omega (arith, leb-true u most le.0); some_bytes = omega arith; in_bytes = omega arith; no_more = r.no_more }
