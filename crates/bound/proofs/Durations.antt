-- The quantities of one row above: each fits, and each is the definition's. Assumes nothing.
use Rattle.basis.specs.Prelude.{ℕ, ◌+◌, ◌*◌, ◌-◌, ◌/◌, ◌%◌, ◌≤◌, ◌<◌, min, ◌≡◌, refl, ap, div-mul-le_self, div-add-mod', mod-lt, mul-le-mul_left, mul-le-mul, arith, rules, Bool, leb, ltb, Fits, w64}
use Rattle.std.proofs.Common.{is_lt, is_le, nat_cmp}
use Rattle.bound.proofs.Names.{most_processors, Row, widest_rows, widest_separation, slots, on, x, W, duration_of, Above, Spans, stay_of, Duration, Amount, FineAmount}

-- equal quantities have equal numbers, and amounts of equal numbers are equal
pub number : {a b : Duration} → a ≡ b → a.0 ≡ b.0
number e = ap (λ (d : Duration). d.0) e

pub number_of_lem : {a b : Amount} → a ≡ b → a.0 ≡ b.0
number_of_lem e = ap (λ (d : Amount). d.0) e

pub number_in : {a b : FineAmount} → a ≡ b → a.0 ≡ b.0
number_in e = ap (λ (d : FineAmount). d.0) e

pub same_amount : {a b : Amount} → a.0 ≡ b.0 → a ≡ b
same_amount e = ap (λ (n : ℕ). record { 0 = n }) e

-- what a comparison of two quantities tells of their numbers
pub less_is : (a b : ℕ) (t : Bool) → t ≡ is_lt (nat_cmp a b) → t ≡ ltb a b
less_is a b t e = search rules

pub at_most_is : (a b : ℕ) (t : Bool) → t ≡ is_le (nat_cmp a b) → t ≡ leb a b
at_most_is a b t e = search rules

-- the largest amount, and the largest in 256ths
pub most_amount : (d g : ℕ) → d ≤ widest_separation → g ≤ most_processors → d * g ≤ widest_separation * most_processors
most_amount d g a b = omega (arith, mul-le-mul a b)

pub most_fine : (d g : ℕ) → d ≤ 256 * widest_separation → g ≤ most_processors → d * g ≤ 256 * (widest_separation * most_processors)
most_fine d g a b = omega (arith, mul-le-mul a b)

-- the largest product of all is below 2^63
pub part_below : (a c : ℕ) → a ≤ 2 * widest_separation → c ≤ widest_separation → 256 * (a * c) < 9223372036854775808
part_below a c l m = omega (arith, mul-le-mul l m)

-- so what is in 256ths fits
pub part_fits : (a c : ℕ) → a ≤ 2 * widest_separation → c ≤ widest_separation → Fits w64 (256 * (a * c))
part_fits a c l m = omega (arith, part_below a c l m)

-- and so is the largest sum, rounded up
pub sum_below : (n a : ℕ) → n ≤ widest_rows → a ≤ n * (256 * (widest_separation * most_processors)) → a + 256 < 9223372036854775808
sum_below n a l m = omega arith

-- an amount fits, in 256ths too, and how often it is filled
pub amount_fits : (d g : ℕ) → d ≤ widest_separation → g ≤ most_processors → Fits w64 (d * g)
amount_fits d g a b = omega (arith, most_amount d g a b)

pub fine_fits : (d g : ℕ) → d ≤ 256 * widest_separation → g ≤ most_processors → Fits w64 (d * g)
fine_fits d g a b = omega (arith, most_fine d g a b)

pub fills_most : (a q : ℕ) → 1 ≤ q → a < (a / q + 1) * q
fills_most a q l = omega (arith, div-add-mod' a q, mod-lt a l)

-- what 32 bits hold fits into 64
pub rounds_fit : (a p : ℕ) → 1 ≤ p → a ≤ 2 * widest_separation → Fits w64 (a / p)
rounds_fit a p l m = omega (arith, div-mul-le_self a p, mul-le-mul_left (a / p) l)

pub rest_fits : (a p : ℕ) → 1 ≤ p → p ≤ widest_separation → Fits w64 (a % p)
rest_fits a p l m = omega (arith, mod-lt a l)

-- x
pub span_is : (row : Row) (R L c e r : Duration) → c.0 ≡ row.budget → e.0 ≡ L.0 + R.0 → r.0 ≡ e.0 - c.0 → r ≡ x row R L
unfolding x
span_is row R L c e r ec ee er = ap slots (omega arith)

pub spans : (row : Row) (R L s : Duration) → Above row R L → s ≡ x row R L → Spans row s
unfolding x
spans row R L s a e = record { some_separation = omega arith; at_most_budget = omega arith; at_most_separation = a.at_most_separation; at_most_span = omega (arith, number e) }

pub span_small : (row : Row) (R L s : Duration) → Above row R L → s ≡ x row R L → s.0 ≤ 2 * widest_separation
span_small row R L s a e = (spans row R L s a e).at_most_span

-- N and W
module _ (row : Row) (s c p : Duration) (f : Spans row s) (ec : c.0 ≡ row.budget) (ep : p.0 ≡ row.separation) (n : ℕ) (en : n ≡ s.0 / p.0) where
  work_within : n * c.0 ≤ s.0
  work_within = rw (en, ep, ec) (omega (arith, div-mul-le_self s.0 row.separation, mul-le-mul_left (s.0 / row.separation) f.at_most_budget))

  pub jobs_fit : Fits w64 (n * c.0)
  jobs_fit = omega (arith, work_within)

  module _ (j l : Duration) (ej : j.0 ≡ n * c.0) where
    pub work_fits : (z : ℕ) → l.0 ≡ min c.0 z → Fits w64 (j.0 + l.0)
    work_fits z e = omega (arith, work_within)

    pub work_is : (r w : Duration) → r.0 ≡ s.0 % p.0 → l.0 ≡ min c.0 r.0 → w.0 ≡ j.0 + l.0 → w ≡ W row s
    unfolding W
    work_is r w er el ew = ap slots (rw (← ep, ← ec, ← en) (omega (arith, rw (← en) at (div-add-mod' s.0 p.0))))

  pub work_small : (W row s).0 ≤ 3 * widest_separation
  unfolding W
  work_small = rw (← ep, ← ec, ← en) (omega (arith, work_within))

-- the duration, and its amount
module _ (row : Row) (R L X : Duration) where
  pub amount_is : (s w d : Duration) (b g : ℕ) (a : Amount) → a.0 ≡ d.0 * g → d.0 ≡ min w.0 X.0 → w ≡ W row s → s ≡ x row R L → g ≡ min row.threads b
      → a ≡ on (duration_of row R L X) (min row.threads b)
  unfolding duration_of
  amount_is s w d b g a ea ed ew es eg = same_amount (rw (← es, ← ew, ← ed, ← eg) ea)

  pub amount_most : (b : ℕ) (a : Amount) → a ≡ on (duration_of row R L X) (min row.threads b) → X.0 ≤ widest_separation → b ≤ most_processors → a.0 ≤ widest_separation * most_processors
  unfolding duration_of
  amount_most b a e l m = rw e (most_amount _ _ (omega arith) (omega arith))

-- how long its duration keeps pace
module _ (row : Row) (R L X s w c p ran job more : Duration) (a : Above row R L) (es : s ≡ x row R L) (ew : w ≡ W row s) (ec : c.0 ≡ row.budget) (ep : p.0 ≡ row.separation)
    (er : ran.0 ≡ s.0 % p.0) (ej : job.0 ≡ c.0 - ran.0) (em : more.0 ≡ w.0 - X.0) where
  pub stay_fits : Fits w64 (job.0 + more.0)
  stay_fits = omega (arith, number ew, work_small row s c p (spans row R L s a es) ec ep (s.0 / p.0) refl)

  pub stay_is : (r : Duration) → r.0 ≡ job.0 + more.0 → r ≡ stay_of row R L X
  unfolding stay_of
  stay_is r e = ap slots (rw (← es, ← ew, ← ep) (omega arith))
