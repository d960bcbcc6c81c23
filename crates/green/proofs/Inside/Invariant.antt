-- The invariant of a moment that slots lead to: each job has waited in slots that would make an interference if they were more, and a slot keeps this. Assumes nothing.
use Rattle.basis.specs.Prelude.{◌≡◌, refl, List, [], ◌∷◌, ℕ, zero, suc, ◌+◌, ◌-◌, ◌≤◌, ◌<◌, min, sub-zero, arith, length}
use Rattle.green.proofs.Names.{Each, Rows, Moment, owed, age, tally, Ranges, q, g, W, X, Slot, Busy, Safe}
use Rattle.green.proofs.Inside.Tallies.{sum_cap}
use Rattle.green.proofs.Inside.Potential.{Φ, Φ_slot, Φ_release, Φ_start, split}

-- ---- a slot and the potential
module _ (C T : ℕ) (pos : 1 ≤ T) (fits : C ≤ T) where
  step : (release ρ s ρ' s' r l : ℕ) → (1 ≤ release → (s ≡ T) × (release ≤ C)) → r ≤ 1 → r ≤ owed release ρ → ρ' ≤ owed release ρ - r → s' ≡ min T (age release s + 1)
      → r + Φ C T ρ' s' l ≤ Φ C T ρ s (suc l)
  unfolding owed age
  step zero ρ s ρ' s' r l releases once runs left ages = Φ_slot C T pos fits ρ s ρ' s' r l once runs left (omega arith) (omega arith)
  step (suc x) ρ s ρ' s' r l releases once runs left ages =
      let h = releases (omega arith) in
      rw h.0 (omega (arith, Φ_slot C T pos fits (suc x) 0 ρ' s' r l once runs left (omega arith) (omega arith), Φ_release C T pos fits ρ (suc x) (suc l) h.1))

-- ---- the invariant
module _ (p : Rows) where
  open p use {m, n, threads, T, D, C, R}

  -- A job of row k, with ρ to run, s slots after its release: vs has the slots in which it waited.
  record JobSoFar (a : Moment) (k ρ s : ℕ) (vs : List (ℕ → ℕ)) : Type 0 where
    ends : s + ρ ≤ C k + length vs
    slack : length vs + C k ≤ R k
    busy : Each (Busy p k) vs
    bounded : (i : ℕ) → i < k → tally vs i + Φ (C i) (T i) (a.remaining i) (a.since i) (R k - s) ≤ W p i (R k)

  pub record Inv (a : Moment) : Type 0 where
    less : (i : ℕ) → i < n → a.remaining i ≤ C i
    old : (i : ℕ) → i < n → a.since i ≤ T i
    job : (k : ℕ) → k < n → 1 ≤ a.remaining k → (vs : List (ℕ → ℕ)) × JobSoFar a k (a.remaining k) (a.since k) vs

  pub in_time : {a : Moment} → Inv a → (k : ℕ) → k < n → 1 ≤ a.remaining k → a.since k + a.remaining k ≤ R k
  in_time v k h x = let j = v.job k h x in omega (arith, j.1.ends, j.1.slack)

  pub inv_fresh : (a : Moment) → ((i : ℕ) → i < n → (a.remaining i ≡ 0) × (a.since i ≡ T i)) → Inv a
  inv_fresh a f = record { less = λ i l. omega (arith, f i l); old = λ i l. omega (arith, f i l); job = λ k l x. absurd (omega (arith, f k l)) }

-- ---- a slot keeps it
module _ (p : Rows) (legal : (i : ℕ) → i < p.n → Ranges p i) (safe : (k : ℕ) → k < p.n → Safe p k)
    (a b : Moment) (release ran : ℕ → ℕ) (c : Slot p a release ran b) (v : Inv p a) where
  open p use {m, n, threads, T, D, C, R}

  -- the potential of a row falls by what it runs
  falls : (i : ℕ) → i < n → (l : ℕ) → ran i + Φ (C i) (T i) (b.remaining i) (b.since i) l ≤ Φ (C i) (T i) (a.remaining i) (a.since i) (suc l)
  falls i h l =
      step (C i) (T i) (omega (arith, legal i h)) (omega (arith, legal i h)) (release i) (a.remaining i) (a.since i) (b.remaining i) (b.since i) (ran i) l
      (c.releases i h) (c.once i h) (c.runs i h) (c.left i h) (c.ages i h)

  -- row k's job after the releases, and before the slot runs
  released : (k : ℕ) → k < n → 1 ≤ owed (release k) (a.remaining k) → (vs : List (ℕ → ℕ)) × JobSoFar p a k (owed (release k) (a.remaining k)) (age (release k) (a.since k)) vs
  unfolding owed age tally W
  released k h x = go (release k) (c.releases k h) x
    where
      go : (r : ℕ) → (1 ≤ r → (a.since k ≡ T k) × (r ≤ C k)) → 1 ≤ owed r (a.remaining k) → (vs : List (ℕ → ℕ)) × JobSoFar p a k (owed r (a.remaining k)) (age r (a.since k)) vs
      go zero f y = v.job k h y
      go (suc r) f y = (
        [],
        record {
          ends = omega (arith, f (omega arith));
          slack = omega (arith, legal k h);
          busy = tt;
          bounded = λ i l.
              let t : i < n = omega arith in
              let w = legal i t in
              let s = Φ_start (C i) (T i) (omega arith) (omega arith) (R i) (a.remaining i) (a.since i) (R k) w.low (omega arith) (v.less i t) (v.old i t) (in_time p v i t) in
              rw sub-zero (omega arith);
        },
      )

  -- the slot, after which ρ is left to run of the job of row k, which is dropped only then
  module _ (k ρ : ℕ) (h : k < n) (alive : 1 ≤ ρ) (rest : ρ ≤ owed (release k) (a.remaining k) - ran k) (vs : List (ℕ → ℕ))
      (j : JobSoFar p a k (owed (release k) (a.remaining k)) (age (release k) (a.since k)) vs) where
    -- the job is a slot older
    older : b.since k ≡ suc (age (release k) (a.since k))
    older = omega (arith, j.ends, j.slack, legal k h, c.ages k h)

    window : R k - age (release k) (a.since k) ≡ suc (R k - b.since k)
    window = omega (arith, j.ends, j.slack, older)

    bound : (i : ℕ) → i < k → ran i + tally vs i + Φ (C i) (T i) (b.remaining i) (b.since i) (R k - b.since k) ≤ W p i (R k)
    bound i l = omega (arith, rw window at (j.bounded i l), falls i (omega arith) (R k - b.since k))

    ran_on : 1 ≤ ran k → JobSoFar p b k ρ (b.since k) vs
    ran_on r = record { ends = omega (arith, j.ends, older); slack = j.slack; busy = j.busy; bounded = λ i l. omega (arith, bound i l) }

    waited : ran k ≡ 0 → JobSoFar p b k ρ (b.since k) (ran ∷ vs)
    unfolding tally g q X
    waited r = record { ends = omega (arith, j.ends, older); slack = in_slack; busy = all; bounded = bound }
      where
        all : Each (Busy p k) (ran ∷ vs)
        all = (record { once = λ i l. c.once i (omega arith); load = omega (arith, c.waits k h (omega arith) r, legal k h, sum_cap k (q p k) threads ran) }, j.busy)

        in_slack : suc (length vs) + C k ≤ R k
        in_slack = split _ _ (λ e. e) λ e. absurd (safe k h (ran ∷ vs) (record { many = omega (arith, j.slack); busy = all; bounded = λ i l. omega (arith, bound i l) }))

  -- the job of row k after the slot, by whether it ran
  after : (k ρ : ℕ) → k < n → 1 ≤ ρ → ρ ≤ owed (release k) (a.remaining k) - ran k → (vs : List (ℕ → ℕ)) × JobSoFar p b k ρ (b.since k) vs
  after k ρ h x y = let j = released k h (omega arith) in go (ran k) refl j.0 j.1
    where
      go : (r : ℕ) → ran k ≡ r → (vs : List (ℕ → ℕ)) → JobSoFar p a k (owed (release k) (a.remaining k)) (age (release k) (a.since k)) vs
          → (ws : List (ℕ → ℕ)) × JobSoFar p b k ρ (b.since k) ws
      go zero e vs j = (ran ∷ vs, waited k ρ h x y vs j e)
      go (suc r) e vs j = (vs, ran_on k ρ h x y vs j (omega arith))

  within : (i : ℕ) → i < n → owed (release i) (a.remaining i) ≤ C i
  unfolding owed
  within i h = go (release i) (c.releases i h)
    where
      go : (r : ℕ) → (1 ≤ r → (a.since i ≡ T i) × (r ≤ C i)) → owed r (a.remaining i) ≤ C i
      go zero f = v.less i h
      go (suc r) f = (f (omega arith)).1

  pub keeps : Inv p b
  keeps = record { less = λ i l. omega (arith, c.left i l, within i l); old = λ i l. omega (arith, c.ages i l); job = λ k l x. after k (b.remaining k) l x (c.left k l) }

  -- what is left of a job before anything is dropped, and the slots since its release, make its bound at most
  pub before_drop : (k : ℕ) → k < n → 1 ≤ owed (release k) (a.remaining k) - ran k → b.since k + (owed (release k) (a.remaining k) - ran k) ≤ R k
  before_drop k h x = let j = after k (owed (release k) (a.remaining k) - ran k) h x (omega arith) in omega (arith, j.1.ends, j.1.slack)
