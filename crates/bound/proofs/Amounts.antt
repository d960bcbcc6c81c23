-- q, X and the sum of the amounts: they fit, and the sum never falls as the length grows. Assumes nothing.
use Rattle.basis.specs.Prelude.{ℕ, ◌+◌, ◌*◌, ◌-◌, ◌≤◌, ◌<◌, min, ◌≡◌, refl, ap, ◌∙◌, false, le-ltb, mul-le-mul_right, arith, Fits, w64}
use Rattle.bound.proofs.Names.{most_processors, sum, sum_grows, sum_le, sum_most, sum_one_more, row_at, LegalRow, Legal, Row, Sheet, widest_rows, widest_separation, slots, on, q, X, x, duration_of, amount_of, amounts, room, passes, Ready, Length, Above, Duration, Amount}
use Rattle.bound.proofs.Durations.{same_amount, number, number_of_lem, most_amount}
use Rattle.bound.proofs.Workload.{W_mono}

-- ---- the row that is judged

module _ (h : Sheet) (k : ℕ) where
  pub q_some : 1 ≤ q h k
  unfolding q
  q_some = omega arith

  pub X_some : (L : Duration) → 1 ≤ (X h k L).0
  unfolding X
  X_some L = omega arith

  pub X_mono : (L l : Duration) → L.0 ≤ l.0 → (X h k L).0 ≤ (X h k l).0
  unfolding X
  X_mono L l m = omega arith

  pub room_by_q : (L : Duration) → (room h k L).0 ≡ (X h k L).0 * q h k
  unfolding room
  room_by_q L = refl

  module _ (l : Legal h) (b : k < h.count) where
    module _ (m : ℕ) (row : Row) (em : m ≡ h.processors) (er : row ≡ row_at h k) where
      pub threads_fit : row.threads ≤ m
      threads_fit = rw (em, er) (l.rows k b).at_most_threads

      pub q_is : m - row.threads + 1 ≡ q h k
      unfolding q
      q_is = rw (em, er)

    pub q_of_small : (c : ℕ) → c ≡ q h k → c ≤ most_processors
    unfolding q
    q_of_small c e = omega (arith, l.rows k b)

    pub capped_small : (c e g : ℕ) → c ≡ q h k → e ≡ min g c → e ≤ most_processors
    capped_small c e g ec ee = omega (arith, q_of_small c ec)

    module _ (L : Duration) (n : Length h k L) where
      pub window_low : (row : Row) → row ≡ row_at h k → row.budget ≤ L.0
      window_low row er = rw er n.low

      module _ (row : Row) (er : row ≡ row_at h k) (c a : Duration) (ec : c.0 ≡ row.budget) (ea : a.0 ≡ L.0 - c.0) where
        pub window_fits : (m : ℕ) → m ≤ widest_separation → Fits w64 (a.0 + m)
        window_fits m e = omega (arith, l.rows k b)

        pub window_is : (o w : Duration) → o.0 ≡ 1 → w.0 ≡ a.0 + o.0 → w ≡ X h k L
        unfolding X
        window_is o w eo ew = rw (← er) (ap slots (omega arith))

      pub window_small : (w : Duration) → w ≡ X h k L → w.0 ≤ widest_separation
      unfolding X
      window_small w e = omega (arith, l.rows k b, number e)

      pub room_is : (w : Duration) (c : ℕ) (a : Amount) → w ≡ X h k L → c ≡ q h k → a.0 ≡ w.0 * c → a ≡ room h k L
      unfolding room
      room_is w c a ew ec ea = same_amount (ea ∙ rw (ew, ec))

      room_small : (a : Amount) → a ≡ room h k L → a.0 ≤ widest_separation * most_processors
      unfolding room
      room_small a e = rw e (most_amount _ _ (window_small _ refl) (q_of_small _ refl))

      -- a whole room in 256ths fits
      pub fine_room_fits : (a : Amount) → a ≡ room h k L → Fits w64 (256 * a.0)
      fine_room_fits a e = omega (arith, room_small a e)

-- a length fails where the sum reaches X on q processors
pub fails_where : (h : Sheet) (R : ℕ → Duration) (k : ℕ) (L : Duration) → (X h k L).0 * q h k ≤ (amounts h R k L k).0 → passes h R k L ≡ false
unfolding passes
fails_where h R k L m = le-ltb (amounts h R k L k).0 (room h k L).0 (rw room_by_q m)

-- the sum over more rows is never less
pub more_rows_add : (h : Sheet) (R : ℕ → Duration) (k : ℕ) (L : Duration) (n m : ℕ) → n ≤ m → (amounts h R k L n).0 ≤ (amounts h R k L m).0
unfolding amounts
more_rows_add h R k L n m l = sum_grows n m (λ i. (amount_of h R k L i).0) l

-- so a length fails where the sum of the first rows reaches X on q processors
pub first_rows_fail : (h : Sheet) (R : ℕ → Duration) (k : ℕ) (L : Duration) (n : ℕ) → n ≤ k → (X h k L).0 * q h k ≤ (amounts h R k L n).0 → passes h R k L ≡ false
first_rows_fail h R k L n l m = fails_where h R k L (omega (arith, more_rows_add h R k L n k l))

-- ---- the rows above it

module _ (h : Sheet) (R : ℕ → Duration) (k : ℕ) (r : Ready h R k) where
  pub own_row : LegalRow h.processors (row_at h k)
  own_row = r.legal.rows k r.below

  pub q_small : q h k ≤ most_processors
  q_small = q_of_small h k r.legal r.below (q h k) refl

  pub X_small : (L : Duration) → Length h k L → (X h k L).0 ≤ widest_separation
  X_small L n = window_small h k r.legal r.below L n (X h k L) refl

  pub row : (i : ℕ) → i < k → LegalRow h.processors (row_at h i)
  row i b = r.legal.rows i (omega arith)

  pub length_small : (L : Duration) → Length h k L → L.0 ≤ widest_separation
  length_small L n = omega (arith, own_row)

  pub few_rows : k < widest_rows
  few_rows = omega arith

  pub row_above : (i : ℕ) (a : Row) (v L : Duration) → i < k → a ≡ row_at h i → v ≡ R i → Length h k L → Above a v L
  row_above i a v L b ea e n =
      rw ea
      (record {
        at_most_threads = omega (arith, row i b);
        some_budget = (row i b).some_budget;
        low = omega (arith, r.low i b, number e);
        high = omega (arith, r.high i b, row i b, number e);
        at_most_separation = omega (arith, row i b);
        at_most_length = length_small L n;
      })

  -- ---- sums

  pub amounts_small : (L : Duration) → Length h k L → (n : ℕ) → (amounts h R k L n).0 ≤ n * (widest_separation * most_processors)
  unfolding amounts amount_of duration_of
  amounts_small L len n = sum_most n _ _ (λ i. most_amount _ _ (omega (arith, X_small L len)) (omega (arith, q_small)))

  pub amounts_more : (L : Duration) (i : ℕ) → (amounts h R k L (i + 1)).0 ≡ (amounts h R k L i).0 + (amount_of h R k L i).0
  unfolding amounts
  amounts_more L i = sum_one_more i (λ i. (amount_of h R k L i).0)

  pub sum_none : (L : Duration) (s : Amount) → s.0 ≡ 0 → s ≡ amounts h R k L 0
  unfolding amounts sum
  sum_none L s e = same_amount e

  module _ (L v w : Duration) (i b : ℕ) (row : Row) (a s : Amount) (ea : a ≡ on (duration_of row v L w) (min row.threads b)) (es : s ≡ amounts h R k L i) (er : row ≡ row_at h i)
      (ev : v ≡ R i) (ew : w ≡ X h k L) (eb : b ≡ q h k) where
    more : s.0 + a.0 ≡ (amounts h R k L (i + 1)).0
    unfolding amount_of
    more = let one : a ≡ amount_of h R k L i = cc in omega (arith, number_of_lem one, number_of_lem es, amounts_more L i)

    pub sum_fits : Length h k L → i < k → Fits w64 (s.0 + a.0)
    sum_fits len l = omega (arith, more, amounts_small L len (i + 1), few_rows)

    pub sum_more : (t : Amount) → t.0 ≡ s.0 + a.0 → t ≡ amounts h R k L (i + 1)
    sum_more t e = same_amount (e ∙ more)

  -- ---- a longer length has no smaller amounts

  pub amount_mono : (L l : Duration) (i : ℕ) → L.0 ≤ l.0 → i < k → (amount_of h R k L i).0 ≤ (amount_of h R k l i).0
  unfolding amount_of duration_of X x
  amount_mono L l i m b =
      mul-le-mul_right (min (row_at h i).threads (q h k))
      (omega (arith, W_mono (row_at h i) (row i b).some_separation (omega (arith, row i b)) (L.0 + (R i).0 - (row_at h i).budget) (l.0 + (R i).0 - (row_at h i).budget) (omega arith)))

  pub amounts_mono : (L l : Duration) (n : ℕ) → L.0 ≤ l.0 → n ≤ k → (amounts h R k L n).0 ≤ (amounts h R k l n).0
  unfolding amounts
  amounts_mono L l n m b = sum_le n (λ i. (amount_of h R k L i).0) (λ i. (amount_of h R k l i).0) (λ i c. amount_mono L l i m (omega arith))
