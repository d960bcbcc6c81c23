-- What the definitions mean, for any test that looks at no lower row: the smallest length that passes, no length passes, and every row after the first none. Assumes nothing.
use Rattle.basis.specs.Prelude.{ℕ, zero, suc, ◌+◌, ◌*◌, ◌≤◌, ◌<◌, ◌≡◌, refl, sym, ap, ◌∙◌, Bool, true, false, mul-le-mul, arith, ltb, lt-ltb}
use Rattle.bound.proofs.Names.{sum, all_of, true_not_false, all_fails, row_at, Legal, Sheet, slots, Test, q, X, amounts, room, passes, Word, bound, none, unreached, is_bound, value_of, passes_at, bound_by, bounds, bounded, judge, results_to, result_of, Duration}
use Rattle.bound.proofs.Inside.Lengths.{never, Smallest, least_hit, least_found, smallest_is_least, none_holds, none_is_least, least_never_unreached}
use Rattle.bound.proofs.Amounts.{q_some, X_some, room_by_q}
use Rattle.bound.proofs.Inside.Judging.{Local, result_where}

-- every row above row k has a bound
abbrev pub Reached : Test → Sheet → ℕ → Type 0
Reached test h k = all_of k (bounded (result_of test h)) ≡ true

-- a length of row k passes, by the bounds above
abbrev pub passing : Test → Sheet → ℕ → ℕ → Bool
passing test h k = passes_at test h (bounds (result_of test h)) k

-- r is the smallest length of row k, from C to D, that passes
abbrev pub SmallestLength : Test → Sheet → ℕ → ℕ → Type 0
SmallestLength test h k r = Smallest (passing test h k) (row_at h k).budget ((row_at h k).deadline + 1) r

-- no length of row k, from C to D, passes
abbrev pub NoLength : Test → Sheet → ℕ → Type 0
NoLength test h k = (l : ℕ) → (row_at h k).budget ≤ l → l ≤ (row_at h k).deadline → passing test h k l ≡ false

module _ (test : Test) (loc : Local test) (h : Sheet) (k : ℕ) where
  by_reached : {A : Type 0} → (all_of k (bounded (result_of test h)) ≡ false → result_of test h k ≡ unreached → A)
      → (Reached test h k → result_of test h k ≡ bound_by test h (bounds (result_of test h)) k → A) → A
  by_reached {A} f g = go (all_of k (bounded (result_of test h))) refl where
    go : (b : Bool) → all_of k (bounded (result_of test h)) ≡ b → A
    go true e = g e (result_where test loc h k true e)
    go false e = f e (result_where test loc h k false e)

  -- a bound: the smallest length that passes, of a row that is reached
  pub bound_is_smallest : (r : ℕ) → result_of test h k ≡ bound r → Reached test h k × SmallestLength test h k r
  unfolding bound_by
  bound_is_smallest r e = by_reached (λ n u. never (cc)) λ y b. (y, least_found (passing test h k) (row_at h k).budget ((row_at h k).deadline + 1) r (sym b ∙ e))

  pub smallest_is_bound : (r : ℕ) → Reached test h k → SmallestLength test h k r → result_of test h k ≡ bound r
  unfolding bound_by
  smallest_is_bound r y s = result_where test loc h k true y ∙ smallest_is_least (passing test h k) (row_at h k).budget ((row_at h k).deadline + 1) r s

  -- none: no length passes, of a row that is reached
  pub none_means_no_length_passes : result_of test h k ≡ none → Reached test h k × NoLength test h k
  unfolding bound_by
  none_means_no_length_passes e =
      by_reached (λ n u. never (cc)) λ y b. (y, λ l low high. none_holds (passing test h k) (row_at h k).budget ((row_at h k).deadline + 1) (sym b ∙ e) l low (omega arith))

  pub no_length_passes_means_none : Reached test h k → NoLength test h k → result_of test h k ≡ none
  unfolding bound_by
  no_length_passes_means_none y f = result_where test loc h k true y ∙ none_is_least (passing test h k) (row_at h k).budget ((row_at h k).deadline + 1) (λ j a b. f j a (omega arith))

  -- a row that is reached has a bound or none
  pub reached_is_not_unreached : Reached test h k → result_of test h k ≡ unreached → ⊥
  unfolding bound_by
  reached_is_not_unreached y e = least_never_unreached (passing test h k) (row_at h k).budget ((row_at h k).deadline + 1) (sym (result_where test loc h k true y) ∙ e)

module _ (test : Test) (loc : Local test) (h : Sheet) where
  -- not reached: after a row with none
  pub unreached_after_none : (i k : ℕ) → i < k → result_of test h i ≡ none → result_of test h k ≡ unreached
  unreached_after_none i k l e = result_where test loc h k false (all_fails k (bounded (result_of test h)) i l (ap is_bound e))

  some_none : (k : ℕ) → all_of k (bounded (result_of test h)) ≡ false → (i : ℕ) × (i < k) × (result_of test h i ≡ none)
  unfolding all_of
  some_none zero e = true_not_false e
  some_none (suc k) e = go (all_of k (bounded (result_of test h))) refl (result_of test h k) refl (some_none k) where
    go : (b : Bool) → all_of k (bounded (result_of test h)) ≡ b → (w : Word) → result_of test h k ≡ w
        → (all_of k (bounded (result_of test h)) ≡ false → (i : ℕ) × (i < k) × (result_of test h i ≡ none)) → (i : ℕ) × (i < suc k) × (result_of test h i ≡ none)
    go false t w ew f = let (i, l, n) = f t in (i, omega arith, n)
    go true t none ew f = (k, omega arith, ew)
    go true t unreached ew f = absurd (reached_is_not_unreached test loc h k t ew)
    go true t (bound r) ew f = true_not_false (rw (t, ew) at e)

  pub unreached_only_after_none : (k : ℕ) → result_of test h k ≡ unreached → (i : ℕ) × (i < k) × (result_of test h i ≡ none)
  unreached_only_after_none k e = by_reached test loc h k (λ n u. some_none k n) (λ y b. absurd (reached_is_not_unreached test loc h k y e))

  module _ (k : ℕ) (e : is_bound (result_of test h k) ≡ true) where
    bounded_is_smallest : SmallestLength test h k (value_of (result_of test h k)).0
    bounded_is_smallest = go (result_of test h k) refl where
      go : (w : Word) → result_of test h k ≡ w → SmallestLength test h k (value_of w).0
      go (bound r) ew = (bound_is_smallest test loc h k r ew).1
      go none ew = true_not_false (sym e ∙ ap is_bound ew)
      go unreached ew = true_not_false (sym e ∙ ap is_bound ew)

    -- a bound is from C to D
    pub bound_in_range : ((row_at h k).budget ≤ (value_of (result_of test h k)).0) × ((value_of (result_of test h k)).0 ≤ (row_at h k).deadline)
    bound_in_range = (bounded_is_smallest.low, omega (arith, bounded_is_smallest.high))

    -- no shorter length passes
    pub bound_is_first : (l : ℕ) → (row_at h k).budget ≤ l → l < (value_of (result_of test h k)).0 → passing test h k l ≡ false
    bound_is_first = bounded_is_smallest.first

    -- it passes, by the bounds above it
    pub bound_passes : test h (bounds (result_of test h)) k (bounds (result_of test h) k) ≡ true
    bound_passes = bounded_is_smallest.holds

-- a length passes exactly where the sum is less than X times q, as numbers
pub passing_is_less : (h : Sheet) (R : ℕ → Duration) (k : ℕ) (L : Duration) → passes h R k L ≡ ltb (amounts h R k L k).0 ((X h k L).0 * q h k)
unfolding passes
passing_is_less h R k L = ap (ltb (amounts h R k L k).0) (room_by_q h k L)

-- ---- the first row

nothing_above : (h : Sheet) (R : ℕ → Duration) (L : Duration) → passes h R 0 L ≡ true
unfolding passes amounts sum
nothing_above h R L = lt-ltb 0 (room h 0 L).0 (rw room_by_q (omega (arith, mul-le-mul {n₁ = 1} {m₁ = 1} {n₂ = (X h 0 L).0} {m₂ = q h 0} (X_some h 0 L) (q_some h 0))))

pub first_row_bound_is_its_budget : (h : Sheet) → Legal h → result_of passes h 0 ≡ bound (row_at h 0).budget
unfolding result_of judge all_of bound_by
first_row_bound_is_its_budget h l =
    least_hit (passes_at passes h (bounds (results_to passes h 0)) 0) (row_at h 0).budget ((row_at h 0).deadline + 1)
    (omega (arith, l.rows 0 l.some_rows)) (nothing_above h (bounds (results_to passes h 0)) (slots (row_at h 0).budget))
