-- The step from a length that fails to the next that can pass: every length between fails. Assumes nothing.
use Rattle.basis.specs.Prelude.{ℕ, ◌+◌, ◌*◌, ◌-◌, ◌≤◌, min, max, ◌≡◌, sym, ◌∙◌, Bool, true, false, ⊎_elim, mul-le-mul_right, mul-le-mul_left, arith, ltb-false, ltb, Fits, w64}
use Rattle.bound.proofs.Names.{most_processors, lt_or_le, Sheet, widest_rows, widest_separation, slots, plus, q, X, amounts, room, passes, Ready, Length, Skips, Adds, Fills, Steep, Duration, Amount, Pace, Added}
use Rattle.bound.proofs.Durations.{number_of_lem}
use Rattle.bound.proofs.Amounts.{few_rows, amounts_mono, amounts_small, q_some, length_small, room_by_q, first_rows_fail}
use Rattle.bound.proofs.Paces.{X_more}

-- ---- what a pace allows

pub steep_whole : (over : Amount) (b : ℕ) (p : Pace) → b ≤ p.width → Steep over b p p.stay
steep_whole over b p l = let e : b - p.width ≡ 0 = omega arith in record { within_stay = omega arith; within_over = rw e (omega arith) }

pub steep_part : (over : Amount) (b n : ℕ) (p : Pace) (f r : Duration) → n * (b - p.width) ≤ over.0 → f.0 ≡ n → r.0 ≡ min p.stay.0 f.0 → Steep over b p r
steep_part over b n p f r l ef e = record { within_stay = omega arith; within_over = omega (arith, mul-le-mul_right {m = r.0} {n = n} (b - p.width) (omega arith)) }

pub divides : (h : Sheet) (k b : ℕ) → b ≡ q h k → 1 ≤ b
divides h k b e = omega (arith, q_some h k)

-- ---- a length that passes, and one that does not

module _ (h : Sheet) (k : ℕ) (L : Duration) (d : Added) (s a : Amount) (t : Bool) (es : s ≡ d.sum) (ea : a ≡ room h k L) (et : t ≡ ltb s.0 a.0) where
  pub trial_passes : (R : ℕ → Duration) → passes h R k L ≡ ltb d.sum.0 (room h k L).0 → t ≡ true → passes h R k L ≡ true
  trial_passes R told e = told ∙ rw (← es, ← ea) (sym et ∙ e)

  pub trial_fills : t ≡ false → Fills h k L d
  trial_fills e = rw (← es, ← ea) (ltb-false s.0 a.0 (sym et ∙ e))

module _ (h : Sheet) (R : ℕ → Duration) (k : ℕ) (r : Ready h R k) (L : Duration) (len : Length h k L) (d : Added) (adds : Adds h R k L d) where
  -- what it can spare fits
  pub spare_fits : (s a o : Amount) → s ≡ d.sum → o.0 ≡ s.0 - a.0 → Fits w64 (256 * o.0 + 255)
  spare_fits s a o es eo = omega (arith, number_of_lem es, number_of_lem adds.sum, adds.within, amounts_small h R k r L len d.rows, few_rows h R k r)

  -- a length fails where the sum has grown by q for each slot more
  fails_at : (e : ℕ) → (X h k L).0 * q h k + e * q h k ≤ (amounts h R k (plus L (slots e)) d.rows).0 → passes h R k (plus L (slots e)) ≡ false
  fails_at e m = first_rows_fail h R k (plus L (slots e)) d.rows adds.within (rw (X_more h R k r L len e) (omega arith))

  module _ (full : Fills h k L d) (a o : Amount) (b : ℕ) (ea : a ≡ room h k L) (eo : o.0 ≡ d.sum.0 - a.0) (eb : b ≡ q h k) where
    over_is : (amounts h R k L d.rows).0 ≡ (X h k L).0 * q h k + o.0
    over_is = omega (arith, number_of_lem adds.sum, number_of_lem ea, room_by_q h k L)

    module _ (n : ℕ) (ln : n * b ≤ o.0) (t f : Duration) (st : Steep o b d.pace t) (ef : f.0 ≡ max t.0 n) where
      further_small : f.0 ≤ widest_rows * (widest_separation * most_processors)
      further_small =
          omega (
            arith,
            over_is,
            adds.within,
            amounts_small h R k r L len d.rows,
            few_rows h R k r,
            adds.pace.stay,
            st.within_stay,
            mul-le-mul_left {m = 1} {n = b} n (omega (arith, q_some h k)),
          )

      -- the sum never falls, and some rows keep pace
      by : (e : ℕ) → e ≤ f.0 → passes h R k (plus L (slots e)) ≡ false
      by e m =
          fails_at e
          (⊎_elim (λ i. omega (
            arith,
            over_is,
            amounts_mono h R k r L (plus L (slots e)) d.rows (omega arith) adds.within,
            rw eb at ln,
            mul-le-mul_right {m = e} {n = n} (q h k) (omega arith),
          ))
          (λ i. omega (
            arith,
            over_is,
            adds.pace.grows e (omega arith),
            rw eb at st.within_over,
            mul-le-mul_right (q h k - d.pace.width) i,
            mul-le-mul_left {m = q h k} {n = d.pace.width + (q h k - d.pace.width)} e (omega arith),
          ))
          (lt_or_le t.0 e))

      pub next_fits : Fits w64 (L.0 + f.0)
      next_fits = omega (arith, further_small, length_small h R k r L len)

      module _ (e : Duration) (ee : e.0 ≡ L.0 + f.0) where
        pub one_more_fits : (m : Duration) (n : ℕ) → m.0 ≡ n → n ≤ widest_separation → Fits w64 (e.0 + m.0)
        one_more_fits m n em l = omega (arith, further_small, length_small h R k r L len)

        pub next_skips : (z : Duration) → z.0 ≡ e.0 + 1 → Skips h R k L z
        next_skips z ez = record { further = omega arith; fails = λ l m i. let g : l ≡ L.0 + (l - L.0) = omega arith in rw g (by (l - L.0) (omega arith)) }
