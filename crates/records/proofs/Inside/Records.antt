-- What each step of a slot does to a row's job, as facts. Assumes nothing.
use Rattle.basis.specs.Prelude.{ℕ, ◌+◌, ◌-◌, ◌≤◌, ◌<◌, ◌≡◌, refl, Bool, true, false, ltb, eqb, ⊎_elim, arith, lt-ltb, le-ltb, eq-eqb, ne_eqb, ltb-false}
use Rattle.records.proofs.Names.{pick, both, accepted, refused, Row, Job, RowState, has_job, released, worked, older, missed, ended, check_row}
use Rattle.basis.proofs.Inside.Words.{lt_or_le}

-- 1. releases
pub released_none : (s : Job) → released 0 s ≡ s
unfolding released
released_none s = refl

pub released_some : (r : ℕ) (s : Job) → 1 ≤ r → released r s ≡ record { remaining = r; since = 0 }
unfolding released
released_some r s l = rw (ne_eqb r 0 (λ e. omega arith))

-- 3. running: a slot takes one at most
pub worked_near : (ran : Bool) (s : Job) → ((worked ran s).remaining ≤ s.remaining) × (s.remaining ≤ (worked ran s).remaining + 1)
unfolding worked
worked_near true s = (omega arith, omega arith)
worked_near false s = (omega arith, omega arith)

pub worked_one : (ran : Bool) (s : Job) → ran ≡ true → (worked ran s).remaining ≡ s.remaining - 1
unfolding worked
worked_one ran s e = rw e

pub worked_none : (ran : Bool) (s : Job) → ran ≡ false → (worked ran s).remaining ≡ s.remaining
unfolding worked
worked_none ran s e = rw e

-- 4. ageing
pub older_below : (T since : ℕ) → since < T → older T since ≡ since + 1
unfolding older
older_below T since l = rw (lt-ltb since T l)

pub older_full : (T since : ℕ) → T ≤ since → older T since ≡ T
unfolding older
older_full T since l = rw (le-ltb since T l)

pub older_within : (T since : ℕ) → 1 ≤ T → (1 ≤ older T since) × (older T since ≤ T)
older_within T since p =
    ⊎_elim (λ l. let e = older_below T since l in (omega arith, omega arith)) (λ l. let e = older_full T since l in (omega arith, omega arith)) (lt_or_le since T)

-- 5. the end: at the deadline nothing is left, and elsewhere what was left is
module _ (row : Row) (s : Job) where
  pub ended_at : s.since ≡ row.deadline → (ended row s).remaining ≡ 0
  unfolding ended missed
  ended_at e = rw (eq-eqb s.since row.deadline e) (go (has_job s) refl)
    where
      go : (t : Bool) → has_job s ≡ t → pick (both t true) 0 s.remaining ≡ 0
      go true f = refl
      go false f = let l = ltb-false 0 s.remaining f in omega arith

  pub ended_else : (s.since ≡ row.deadline → ⊥) → (ended row s).remaining ≡ s.remaining
  unfolding ended missed
  ended_else d = rw (ne_eqb s.since row.deadline d) (go (has_job s))
    where
      go : (t : Bool) → pick (both t false) 0 s.remaining ≡ s.remaining
      go true = refl
      go false = refl

  pub ended_less : (ended row s).remaining ≤ s.remaining
  unfolding ended missed
  ended_less = go (both (has_job s) (eqb s.since row.deadline))
    where
      go : (t : Bool) → pick t 0 s.remaining ≤ s.remaining
      go true = omega arith
      go false = omega arith

  pub ended_since : (ended row s).since ≡ s.since
  unfolding ended
  ended_since = refl

-- what an accepted release is
pub release_allowed : (row : Row) (s : RowState) (r k : ℕ) → 1 ≤ r → check_row row s r k ≡ accepted → (r ≤ row.budget) × (row.separation ≤ s.job.since)
unfolding check_row
release_allowed row s r k l e =
    go (ltb row.budget r) refl (ltb s.job.since row.separation) refl (rw (ne_eqb r 0 (λ z. omega arith)) at e)
  where
    go : (a : Bool) → ltb row.budget r ≡ a → (b : Bool) → ltb s.job.since row.separation ≡ b
        → pick a (refused 12 k) (pick b (refused 13 k) accepted) ≡ accepted → (r ≤ row.budget) × (row.separation ≤ s.job.since)
    go true ea b eb f = let z : ◌≡◌ {A = ℕ} 0 1 = cc in absurd (omega arith)
    go false ea true eb f = let z : ◌≡◌ {A = ℕ} 0 1 = cc in absurd (omega arith)
    go false ea false eb f = (ltb-false _ _ ea, ltb-false _ _ eb)
