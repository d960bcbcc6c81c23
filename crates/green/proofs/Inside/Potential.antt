-- The potential of a row: the most that it runs in the next slots, which falls by what it runs in each. Assumes nothing.
use Rattle.basis.specs.Prelude.{ℕ, zero, suc, ◌+◌, ◌-◌, ◌≤◌, ◌<◌, min, lt_of_not-le, arith}
use native.Mathlib.Decide.{dec_le}
use Rattle.basis.specs.Workload.{ω}
use Rattle.basis.proofs.Inside.Workload.{ω_mono, ω_lip, ω_period, ω_small, ω_least}

-- the potential of a row: the most that it runs in the next l slots, with ρ to run of a job that was released s slots ago
unfoldable pub Φ : ℕ → ℕ → ℕ → ℕ → ℕ → ℕ
Φ C T ρ s l = min ρ l + ω C T (l - (T - s))

-- one order or the other
pub split : {X : Type 0} (a b : ℕ) → (a ≤ b → X) → (b < a → X) → X
split a b f g = elim (dec_le a b) [ yes h ↦ f h | no h ↦ g (lt_of_not-le h) ]

module _ (C T : ℕ) (pos : 1 ≤ T) (fits : C ≤ T) where
  -- a release, which comes a period after the last or later, is foreseen
  pub Φ_release : (ρ ρ' l : ℕ) → ρ' ≤ C → Φ C T ρ' 0 l ≤ Φ C T ρ T l
  unfolding Φ
  Φ_release ρ ρ' l h =
      split l T
      (λ k. omega (arith, ω_small C T pos fits 0 (omega arith), ω_mono C T pos fits (l - (T - 0)) 0 (omega arith), ω_least C T pos fits l, ω_mono C T pos fits l (l - (T - T)) (omega arith)))
      (λ k. omega (arith, ω_period C T pos fits (l - (T - 0)), ω_mono C T pos fits (l - (T - 0) + T) (l - (T - T)) (omega arith)))

  -- a slot: what runs in it, and what is left after it
  pub Φ_slot : (ρ s ρ' s' r l : ℕ) → r ≤ 1 → r ≤ ρ → ρ' ≤ ρ - r → s' ≤ T → s' ≤ s + 1 → r + Φ C T ρ' s' l ≤ Φ C T ρ s (suc l)
  unfolding Φ
  Φ_slot ρ s ρ' s' r l one runs left old next = omega (arith, ω_mono C T pos fits (l - (T - s')) (suc l - (T - s)) (omega arith))

  -- the start: a job that ends within R slots of its release leaves no more to a window of l slots than jobs packed as close as they come
  pub Φ_start : (R ρ s l : ℕ) → C ≤ R → R ≤ T → ρ ≤ C → s ≤ T → (1 ≤ ρ → s + ρ ≤ R) → Φ C T ρ s l ≤ ω C T (l + R - C)
  unfolding Φ
  Φ_start R zero s l c r less old within = omega (arith, ω_mono C T pos fits (l - (T - s)) (l + R - C) (omega arith))
  Φ_start R (suc ρ) s l c r less old within =
      let x : ℕ = l - (T - s) in
      let y : ℕ = l + R - C in
      let soon : s + suc ρ ≤ R = within (omega arith) in
      split l (T - s)
      (λ k. omega (arith, ω_small C T pos fits 0 (omega arith), ω_mono C T pos fits x 0 (omega arith), ω_least C T pos fits l, ω_mono C T pos fits l y (omega arith)))
      (λ k. omega (arith, ω_period C T pos fits x, ω_lip C T pos fits y (x + T) (C - suc ρ) (omega arith)))
