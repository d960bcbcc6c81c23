-- Laws of the workload: it never falls; a slot more, a period more, a job that runs; and within a period the straight line that it is never below. Assumes nothing.
use Rattle.basis.specs.Prelude.{◌≡◌, ap, subst, ⊎_elim, ℕ, zero, suc, ◌+◌, ◌*◌, ◌-◌, ◌/◌, ◌%◌, ◌≤◌, ◌<◌, min, add-zero, add-suc, add-sub_of_le, mod-lt, div-add-mod', eq-or-lt_of_le, le_of_lt, mul-le-mul_left, arith}
use lib.Arith.{digits_div, digits_mod}
use Rattle.basis.specs.Workload.{ω}
use Rattle.basis.proofs.Inside.Words.{lt_or_le}

-- the lesser of two that stay above straight lines stays above the lesser of these at each end; c and d are what is left and what is passed of the way
pub lesser_evenly : (c d a b w x y z : ℕ) → c * a + d * b ≤ (c + d) * w → c * x + d * y ≤ (c + d) * z → c * min a x + d * min b y ≤ (c + d) * min w z
lesser_evenly c d a b w x y z f g =
    ⊎_elim (λ l. let e : min w z ≡ w = omega arith in
    rw e (omega (arith, mul-le-mul_left {m = min a x} {n = a} c (omega arith), mul-le-mul_left {m = min b y} {n = b} d (omega arith))))
    (λ l. let e : min w z ≡ z = omega arith in
    rw e (omega (arith, mul-le-mul_left {m = min a x} {n = x} c (omega arith), mul-le-mul_left {m = min b y} {n = y} d (omega arith)))) (lt_or_le w z)

module _ (C T : ℕ) (pos : 1 ≤ T) (fits : C ≤ T) where
  at_lt : (a r : ℕ) → r < T → ω C T (a * T + r) ≡ a * C + min C r
  unfolding ω
  at_lt a r h = rw (digits_div a h) (omega arith)

  -- a periods and r slots more: also where these make up one more period
  at : (a r : ℕ) → r ≤ T → ω C T (a * T + r) ≡ a * C + min C r
  at a r h = ⊎_elim (λ e. let x : a * T + r ≡ suc a * T + 0 = omega arith in omega (arith, ap (ω C T) x, at_lt (suc a) 0 (omega arith))) (at_lt a r) (eq-or-lt_of_le h)

  by_digits : (P : ℕ → Type 0) → ((a r : ℕ) → r < T → P (a * T + r)) → (x : ℕ) → P x
  by_digits P f x = subst P (div-add-mod' x T) (f (x / T) (x % T) (mod-lt x pos))

  -- what a period more adds
  pub ω_period : (x : ℕ) → ω C T (x + T) ≡ ω C T x + C
  ω_period = by_digits (λ x. ω C T (x + T) ≡ ω C T x + C) λ a r l.
      let e : a * T + r + T ≡ suc a * T + r = omega arith in
      omega (arith, ap (ω C T) e, at_lt (suc a) r l, at_lt a r l)

  -- what a slot more adds: nothing, or one
  ω_next : (x : ℕ) → (ω C T x ≤ ω C T (suc x)) × (ω C T (suc x) ≤ suc (ω C T x))
  ω_next = by_digits (λ x. (ω C T x ≤ ω C T (suc x)) × (ω C T (suc x) ≤ suc (ω C T x))) λ a r l.
      let e : suc (a * T + r) ≡ a * T + suc r = omega arith in
      omega (arith, ap (ω C T) e, at a (suc r) l, at_lt a r l)

  -- what d slots more add
  ω_more : (x d : ℕ) → (ω C T x ≤ ω C T (x + d)) × (ω C T (x + d) ≤ ω C T x + d)
  ω_more x zero = omega (arith, ap (ω C T) (add-zero x))
  ω_more x (suc d) = omega (arith, ap (ω C T) (add-suc x d), ω_more x d, ω_next (x + d))

  pub ω_mono : (x y : ℕ) → x ≤ y → ω C T x ≤ ω C T y
  ω_mono x y h = omega (arith, ap (ω C T) (add-sub_of_le h), ω_more x (y - x))

  pub ω_lip : (x y d : ℕ) → y ≤ x + d → ω C T y ≤ ω C T x + d
  ω_lip x y d h = omega (arith, ω_mono y (x + d) h, ω_more x d)

  pub ω_small : (x : ℕ) → x ≤ T → ω C T x ≡ min C x
  ω_small x h = let e : 0 * T + x ≡ x = omega arith in omega (arith, ap (ω C T) e, at 0 x h)

  pub ω_least : (x : ℕ) → min C x ≤ ω C T x
  ω_least x = ⊎_elim (λ h. omega (arith, ω_small x (omega arith))) (λ h. omega (arith, ω_small T (omega arith), ω_mono T x h)) (lt_or_le x T)

  -- a job that is to run for as long as d runs for d
  keeps_pace : (x d : ℕ) → d ≤ C - x % T → ω C T x + d ≤ ω C T (x + d)
  keeps_pace = by_digits (λ x. (d : ℕ) → d ≤ C - x % T → ω C T x + d ≤ ω C T (x + d)) λ a r l d h.
      let e : a * T + r + d ≡ a * T + (r + d) = omega arith in
      let m : d ≤ C - r = rw (digits_mod a l) at h in
      omega (arith, ap (ω C T) e, at a (r + d) (omega arith), at_lt a r l)

  -- what d slots more add at least: those that the present job is still to run
  pub ω_runs_on : (x d : ℕ) → ω C T x + min d (C - x % T) ≤ ω C T (x + d)
  ω_runs_on x d = omega (arith, keeps_pace x (min d (C - x % T)) (omega arith), ω_mono (x + min d (C - x % T)) (x + d) (omega arith))

  -- it is no less than the budget of every separation
  pub ω_shares : (x : ℕ) → x * C ≤ ω C T x * T
  ω_shares = by_digits (λ x. x * C ≤ ω C T x * T) λ a r l.
      let m : r * C ≤ min C r * T =
      ⊎_elim (λ h. let z : min C r ≡ r = omega arith in rw z (mul-le-mul_left r fits))
      (λ h. let z : min C r ≡ C = omega arith in rw z (omega (arith, mul-le-mul_left C (le_of_lt l)))) (lt_or_le r C) in
      rw (at_lt a r l) (omega arith)

  -- within one period it is above the straight line from its value at the start to that at the end
  pub ω_evenly : (x c d : ℕ) → x % T + (c + d) ≤ T → c * ω C T x + d * ω C T (x + (c + d)) ≤ (c + d) * ω C T (x + d)
  ω_evenly = by_digits (λ x. (c d : ℕ) → x % T + (c + d) ≤ T → c * ω C T x + d * ω C T (x + (c + d)) ≤ (c + d) * ω C T (x + d)) λ a r l c d h.
      let m : r + (c + d) ≤ T = rw (digits_mod a l) at h in
      let e₁ : a * T + r + (c + d) ≡ a * T + (r + (c + d)) = omega arith in
      let e₂ : a * T + r + d ≡ a * T + (r + d) = omega arith in
      rw (e₁, e₂, at_lt a r l, at a (r + (c + d)) m, at a (r + d) (omega arith))
      (omega (arith, lesser_evenly c d C C C r (r + (c + d)) (r + d) (omega arith) (omega arith)))
