-- The margin of a row with a job: its value, its range, and what negative and zero say in numbers. Assumes nothing.
use Rattle.basis.specs.Prelude.{ℕ, suc, ◌+◌, ◌-◌, ◌≤◌, ◌<◌, ◌≡◌, refl, Bool, true, false, cond, ltb, le→leb, ltb→lt, arith, lt-ltb, ltb-true, ltb-false}
use lib.IntN.{pos, negsuc, sub_ℕ, ◌-ℤ◌}
use lib.Signed.{◌≤ℤ◌, ◌<ℤ◌}
use Rattle.machine.proofs.Names.{accepted, row_at, LegalRow, Row, Sheet, Job, State, record_at, check_margin, margin_is, margin_of, margin_at, margin}
use Rattle.machine.proofs.Inside.Differences.{less, less_twice}
use Rattle.machine.proofs.Inside.Legals.{LegalJob}

-- where the checks pass: a row with a job has the margin D - since - remaining, and a row without one has none
pub margin_of_a_job : (h : Sheet) (t : State) (k : ℕ) → check_margin h t k ≡ accepted → 1 ≤ (record_at t k).job.remaining
    → margin h t k ≡ margin_is ((pos (row_at h k).deadline -ℤ pos (record_at t k).job.since) -ℤ pos (record_at t k).job.remaining)
unfolding margin margin_at margin_of
margin_of_a_job h t k e j = rw (e, lt-ltb 0 (record_at t k).job.remaining j)

-- differences in order
difference_le : (a b c d : ℕ) → a + d ≤ c + b → sub_ℕ a b ≤ℤ sub_ℕ c d
difference_le a b c d h = go (ltb a b) refl (ltb c d) refl
  where
    go : (x : Bool) → ltb a b ≡ x → (y : Bool) → ltb c d ≡ y → cond x (negsuc (b - suc a)) (pos (a - b)) ≤ℤ cond y (negsuc (d - suc c)) (pos (c - d))
    go true e true f = record { le = le→leb (d - suc c) (b - suc a) (omega (arith, ltb-true a b e, ltb-true c d f)) }
    go true e false f = record { le = tt }
    go false e true f = absurd (omega (arith, ltb-false a b e, ltb-true c d f))
    go false e false f = record { le = le→leb (a - b) (c - d) (omega (arith, ltb-false a b e, ltb-false c d f)) }

-- the range: from 1 - C to D - 2
module _ (m : ℕ) (row : Row) (s : Job) (w : LegalRow m row) (l : LegalJob row s) (job : 1 ≤ s.remaining) where
  pub margin_least : (pos 1 -ℤ pos row.budget) ≤ℤ margin_of row s
  unfolding margin_of
  margin_least =
      rw (less_twice row.deadline s.since s.remaining, less 1 row.budget)
      (difference_le 1 row.budget row.deadline (s.since + s.remaining) (omega (arith, l.in_time job, l.most_remaining)))

  pub margin_most : margin_of row s ≤ℤ (pos row.deadline -ℤ pos 2)
  unfolding margin_of
  margin_most =
      rw (less_twice row.deadline s.since s.remaining, less row.deadline 2)
      (difference_le row.deadline (s.since + s.remaining) row.deadline 2 (omega (arith, l.some_since)))

-- negative, and zero, as numbers
sign_of : (a b : ℕ) → (sub_ℕ a b <ℤ pos 0 → a < b) × (sub_ℕ a b ≡ pos 0 → b ≡ a)
sign_of a b = go (ltb a b) refl
  where
    go : (x : Bool) → ltb a b ≡ x → (cond x (negsuc (b - suc a)) (pos (a - b)) <ℤ pos 0 → a < b) × (cond x (negsuc (b - suc a)) (pos (a - b)) ≡ pos 0 → b ≡ a)
    go true e = (λ f. ltb-true _ _ e, λ f. let z : ◌≡◌ {A = ℕ} 0 1 = cc in absurd (omega arith))
    go false e = (λ f. absurd (omega (arith, ltb→lt (a - b) 0 f.lt)), λ f. let z : a - b ≡ 0 = cc in omega (arith, ltb-false a b e))

module _ (row : Row) (s : Job) where
  pub negative_late : margin_of row s <ℤ pos 0 → row.deadline < s.since + s.remaining
  unfolding margin_of
  negative_late n = (sign_of _ _).0 (rw less_twice at n)

  pub zero_just : margin_of row s ≡ pos 0 → s.since + s.remaining ≡ row.deadline
  unfolding margin_of
  zero_just e = (sign_of _ _).1 (rw less_twice at e)
