-- The rows of a box and its slots as the argument for green sees them: functions of the row number, free of how a machine stores its rows.
use Rattle.std.specs.Prelude.{◌+◌, ◌*◌, ◌-◌, ◌≤◌, ◌<◌, ◌≡◌, ◌∷◌}
use Rattle.basis.specs.Prelude.{ℕ, zero, suc, min, List, [], length}
use Rattle.basis.specs.Words.{sum, Each}
use Rattle.basis.specs.Workload.{ω}

-- m processors, and n rows from the top: threads, separation T, deadline D, budget C, and the bound R that is to be shown.
pub record Rows : Type 0 where
  pub m : ℕ
  pub n : ℕ
  pub threads : ℕ → ℕ
  pub T : ℕ → ℕ
  pub D : ℕ → ℕ
  pub C : ℕ → ℕ
  pub R : ℕ → ℕ

-- What remains of each row's job, and the slots since its release.
pub record Moment : Type 0 where
  pub remaining : ℕ → ℕ
  pub since : ℕ → ℕ

-- What a row has to run after a release of r slots, where ρ remained; no release where r is 0.
unfoldable pub owed : ℕ → ℕ → ℕ
owed zero ρ = ρ
owed (suc r) ρ = suc r

-- The slots since its release after a release of r slots, where s had passed.
unfoldable pub age : ℕ → ℕ → ℕ
age zero s = s
age (suc r) s = 0

-- How often row i runs in the slots of a list.
unfoldable pub tally : List (ℕ → ℕ) → ℕ → ℕ
tally [] i = 0
tally (v ∷ vs) i = v i + tally vs i

module _ (p : Rows) where
  open p use {m, n, threads, T, D, C, R}

  -- The ranges of a row, and its bound from C to D.
  pub record Ranges (i : ℕ) : Type 0 where
    pub some_threads : 1 ≤ threads i
    pub at_most_threads : threads i ≤ m
    pub some_budget : 1 ≤ C i
    pub low : C i ≤ R i
    pub high : R i ≤ D i
    pub at_most_deadline : D i ≤ T i

  -- q = m - threads + 1.
  unfoldable pub q : ℕ → ℕ
  q k = m - threads k + 1

  -- Threads capped at q.
  unfoldable pub g : ℕ → ℕ → ℕ
  unfolding q
  g k i = min (threads i) (q k)

  -- W of row i at a length.
  unfoldable pub W : ℕ → ℕ → ℕ
  W i l = ω (C i) (T i) (l + R i - C i)

  -- X at the bound itself.
  unfoldable pub X : ℕ → ℕ
  X k = R k - C k + 1

  -- One slot, from one moment to the next: a release only where T slots have passed, of C slots at most; a row runs once at most and only with a job; a row with
  -- a job waits only where it does not fit beside the rows above that run; since grows by one, up to T; and what remains is at most what was left after running.
  pub record Slot (a : Moment) (release ran : ℕ → ℕ) (b : Moment) : Type 0 where
    pub releases : (i : ℕ) → i < n → 1 ≤ release i → (a.since i ≡ T i) × (release i ≤ C i)
    pub once : (i : ℕ) → i < n → ran i ≤ 1
    pub runs : (i : ℕ) → i < n → ran i ≤ owed (release i) (a.remaining i)
    pub waits : (k : ℕ) → k < n → 1 ≤ owed (release k) (a.remaining k) → ran k ≡ 0 → m < sum k (λ i. ran i * threads i) + threads k
    pub ages : (i : ℕ) → i < n → b.since i ≡ min (T i) (age (release i) (a.since i) + 1)
    pub left : (i : ℕ) → i < n → b.remaining i ≤ owed (release i) (a.remaining i) - ran i

  -- A moment that slots lead to from one in which no row has a job and T slots have passed.
  pub data Reached : Moment → Type 0 where
    fresh : {a : Moment} → ((i : ℕ) → i < n → (a.remaining i ≡ 0) × (a.since i ≡ T i)) → Reached a
    slot : {a b : Moment} (release ran : ℕ → ℕ) → Reached a → Slot a release ran b → Reached b

  -- A slot in which a job of row k waits: the rows above that run take q processors or more, each counted at q at most.
  pub record Busy (k : ℕ) (v : ℕ → ℕ) : Type 0 where
    pub once : (i : ℕ) → i < k → v i ≤ 1
    pub load : q k ≤ sum k (λ i. v i * g k i)

  -- Interference: X such slots, in which no row above runs more than W at the bound.
  pub record Interference (k : ℕ) (vs : List (ℕ → ℕ)) : Type 0 where
    pub many : length vs ≡ X k
    pub busy : Each (Busy k) vs
    pub bounded : (i : ℕ) → i < k → tally vs i ≤ W i (R k)

  -- What a test has to show of row k: there is no interference.
  abbrev pub Safe : ℕ → Type 0
  Safe k = (vs : List (ℕ → ℕ)) → Interference k vs → ⊥

  -- The test of 01 at the bound: the capped amounts of the rows above are less than q × X.
  abbrev pub Passes : ℕ → Type 0
  Passes k = sum k (λ i. min (W i (R k)) (X k) * g k i) < q k * X k
