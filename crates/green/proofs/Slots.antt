-- From the machine's own slot to what the argument for green needs of a slot. Assumes nothing.
use Rattle.basis.specs.Prelude.{ℕ, zero, suc, ◌+◌, ◌*◌, ◌-◌, ◌≤◌, ◌<◌, min, ◌≡◌, refl, ◌∙◌, Bool, true, false, ⊎_elim, List, arith, get_or, ltb, leb, ltb-true, lt-ltb, ne_eqb}
use Rattle.green.proofs.Names.{pick, both, accepted, sum_same, lt_or_le, row_at, Row, Sheet, Job, State, record_at, begun, free, runs, reached, released, fits, worked, older, aged, ended, check_at, check_releases, given, next_state, LegalState, next_at, release_allowed, older_below, older_full, ended_less, Moment, owed, age, Slot}
use Rattle.basis.proofs.Inside.FirstRefusal.{first_at}
use Rattle.machine.proofs.Placement.{taken_by, processors_are_kept, waits_unfit}
use Rattle.green.proofs.Sheets.{rows_of}

-- a state as functions of the row number
abbrev pub moment_of : State → Moment
moment_of t = record { remaining = λ k. (record_at t k).job.remaining; since = λ k. (record_at t k).job.since }

-- one where a row runs
abbrev pub bit : Bool → ℕ
bit b = pick b 1 0

at_most_one : (b : Bool) → bit b ≤ 1
at_most_one true = omega arith
at_most_one false = omega arith

-- ---- a row's steps, by themselves

released_is : (r : ℕ) (s : Job) → ((released r s).remaining ≡ owed r s.remaining) × ((released r s).since ≡ age r s.since)
unfolding released owed age
released_is zero s = (refl, refl)
released_is (suc r) s = let d = ne_eqb (suc r) 0 (λ e. omega arith) in (rw d, rw d)

-- a row that runs has a job
runs_with_job : (f : ℕ) (row : Row) (s : Job) → bit (fits f row s) ≤ s.remaining
unfolding fits
runs_with_job f row s = go (ltb 0 s.remaining) (leb row.threads f) refl
  where
    go : (a b : Bool) → ltb 0 s.remaining ≡ a → bit (both a b) ≤ s.remaining
    go true true e = ltb-true 0 s.remaining e
    go true false e = omega arith
    go false b e = omega arith

-- since grows by one, up to T
older_is : (T s : ℕ) → s ≤ T → older T s ≡ min T (s + 1)
older_is T s h = ⊎_elim (λ l. omega (arith, older_below T s l)) (λ l. omega (arith, older_full T s l)) (lt_or_le s T)

-- what is left after running
pub worked_remaining : (b : Bool) (s : Job) → (worked b s).remaining ≡ s.remaining - bit b
unfolding worked
worked_remaining true s = refl
worked_remaining false s = omega arith

-- where a row's bit is none it does not run
not_running : (b : Bool) → bit b ≡ 0 → b ≡ false
not_running true e = absurd (omega arith)
not_running false e = refl

-- what a row that runs takes, as a product
taken_as : (b : Bool) (n : ℕ) → pick b n 0 ≡ bit b * n
taken_as true n = omega arith
taken_as false n = omega arith

-- ---- the slot of a sheet
module _ (h : Sheet) (t : State) (rel : List ℕ) (state : LegalState h t) (fine : check_releases h t rel ≡ accepted) where
  -- row k runs, as a number
  pub ran : ℕ → ℕ
  ran k = bit (runs (given h t rel) k)

  abbrev begin : ℕ → Job
  begin k = begun (given h t rel) k

  pub begin_remaining : (k : ℕ) → (begin k).remaining ≡ owed (get_or rel k 0) (record_at t k).job.remaining
  unfolding given
  begin_remaining k = (released_is (get_or rel k 0) (record_at t k).job).0

  pub released_so : (k : ℕ) → k < h.count → 1 ≤ get_or rel k 0 → ((record_at t k).job.since ≡ (row_at h k).separation) × (get_or rel k 0 ≤ (row_at h k).budget)
  unfolding check_releases
  released_so k l r =
      let (a, b) = release_allowed (row_at h k) (record_at t k) (get_or rel k 0) k r (first_at h.count (check_at h t rel) fine k l) in
      (omega (arith, state.rows k l), a)

  -- after steps 3 and 4
  pub reached_remaining : (k : ℕ) → (reached (given h t rel) k).remaining ≡ owed (get_or rel k 0) (record_at t k).job.remaining - ran k
  unfolding aged ran
  reached_remaining k = omega (arith, worked_remaining (runs (given h t rel) k) (begin k), begin_remaining k)

  not_older : (k : ℕ) → k < h.count → age (get_or rel k 0) (record_at t k).job.since ≤ (row_at h k).separation
  unfolding age
  not_older k l = go (get_or rel k 0)
    where
      go : (r : ℕ) → age r (record_at t k).job.since ≤ (row_at h k).separation
      go zero = (state.rows k l).most_since
      go (suc r) = omega arith

  pub reached_since : (k : ℕ) → k < h.count → (reached (given h t rel) k).since ≡ min (row_at h k).separation (age (get_or rel k 0) (record_at t k).job.since + 1)
  unfolding aged worked given
  reached_since k l = rw (released_is (get_or rel k 0) (record_at t k).job).1 (older_is _ _ (not_older k l))

  pub next_since : (k : ℕ) → k < h.count → (record_at (next_state h t rel) k).job.since ≡ (reached (given h t rel) k).since
  unfolding ended
  next_since k l = rw (next_at h t rel state k l)

  next_remaining : (k : ℕ) → k < h.count → (record_at (next_state h t rel) k).job.remaining ≤ (reached (given h t rel) k).remaining
  unfolding given
  next_remaining k l = rw (next_at h t rel state k l) (ended_less (row_at h k) (reached (given h t rel) k))

  pub slot_is : (n : ℕ) → n ≤ h.count → Slot (rows_of h n) (moment_of t) (λ k. get_or rel k 0) ran (moment_of (next_state h t rel))
  unfolding ran given
  slot_is n within = record {
    releases = λ i l. released_so i (omega arith);
    once = λ i l. at_most_one (runs (given h t rel) i);
    runs = λ i l. omega (arith, runs_with_job (free (given h t rel) i) (row_at h i) (begin i), begin_remaining i);
    waits = λ k l j e.
        let unfit = waits_unfit (given h t rel) k (lt-ltb 0 (begin k).remaining (omega (arith, begin_remaining k))) (not_running (runs (given h t rel) k) e) in
        let taken = sum_same k (taken_by (given h t rel)) (λ i. ran i * (row_at h i).threads) (λ i g. taken_as (runs (given h t rel) i) (row_at h i).threads) in
        omega (arith, processors_are_kept (given h t rel) k);
    ages = λ i l. next_since i (omega arith) ∙ reached_since i (omega arith);
    left = λ i l. omega (arith, next_remaining i (omega arith), reached_remaining i);
  }
