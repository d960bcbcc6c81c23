-- Shares: in proportion to X, the amounts in a shorter length are no less than the shares in a longer one. So where these leave no room, no shorter length passes. Assumes nothing.
use Rattle.basis.specs.Prelude.{ℕ, ◌+◌, ◌*◌, ◌-◌, ◌/◌, ◌≤◌, ◌<◌, min, ◌≡◌, sym, ap, ◌∙◌, Bool, true, false, ⊎_elim, mul-le-mul_left, mul-le-mul_right, le_of_mul-le-mul_left, le_of_mul-le-mul_right, div-mul-le_self, arith, ltb-true, ltb, Fits, w64}
use Rattle.bound.proofs.Names.{most_processors, lt_or_le, row_at, LegalRow, Row, Sheet, widest_separation, slots, parts, pieces, on_fine, q, X, x, duration_of, amount_of, amounts, room, Ready, Length, Skips, share_of, Shares, AllFail, Duration, Amount, FineAmount}
use Rattle.bound.proofs.Inside.Lengths.{never}
use Rattle.bound.proofs.Durations.{number_in, most_fine}
use Rattle.bound.proofs.Workload.{W_shares}
use Rattle.bound.proofs.Amounts.{few_rows, row, own_row, q_small, X_small, X_some, X_mono, room_by_q, fails_where, amounts_more}
use Rattle.bound.specs.Inside.Parts.{Fine}

-- ---- one row

module _ (row : Row) (R L X s o : Duration) (p f d : Fine) (es : s ≡ x row R L) (eo : o.0 ≡ row.separation) (ep : p.0 ≡ 256 * (s.0 * row.budget) / o.0) (ef : f.0 ≡ 256 * X.0)
    (ed : d.0 ≡ min p.0 f.0) where
  share_is : d ≡ share_of row R L X
  unfolding share_of
  share_is = ap parts (ed ∙ rw (ep, eo, ef, es))

  pub share_amount_is : (b g : ℕ) (a : FineAmount) → g ≡ min row.threads b → a.0 ≡ d.0 * g → a ≡ on_fine (share_of row R L X) (min row.threads b)
  share_amount_is b g a eg ea = ap pieces (ea ∙ rw (share_is, eg))

-- in proportion, work w that is no less than the share of y slots and a more is no less than s, which is no more than the share of Y slots and a more
in_proportion : (C T y Y a w s : ℕ) → 1 ≤ T → y ≤ Y → (y + a) * C ≤ w * T → s * T ≤ (Y + a) * C → y * s ≤ Y * w
in_proportion C T y Y a w s pos l hw hs = le_of_mul-le-mul_right {k = T} (omega (arith, mul-le-mul_left y hs, mul-le-mul_left Y hw, mul-le-mul_right (a * C) l)) pos

-- and so in 256ths where both are capped at their slots
capped_in_proportion : (y Y w s : ℕ) → y * s ≤ Y * (256 * w) → y * min s (256 * Y) ≤ Y * (256 * min w y)
capped_in_proportion y Y w s h =
    ⊎_elim
    (λ l. let e : min w y ≡ w = omega arith in rw e (omega (arith, mul-le-mul_left {m = min s (256 * Y)} {n = s} y (omega arith))))
    (λ l. let e : min w y ≡ y = omega arith in rw e (omega (arith, mul-le-mul_left {m = min s (256 * Y)} {n = 256 * Y} y (omega arith))))
    (lt_or_le w y)

-- both of a row above, in a length l and in a longer one L of a row with budget B
share_in_proportion : (C T B l L R w : ℕ) → 1 ≤ T → C ≤ R → 1 ≤ B → B ≤ l → l ≤ L → (l + R - C) * C ≤ w * T
    → (l - B + 1) * min (256 * ((L + R - C) * C) / T) (256 * (L - B + 1)) ≤ (L - B + 1) * (256 * min w (l - B + 1))
share_in_proportion C T B l L R w pos low some from to work =
    let el : l + R - C ≡ l - B + 1 + (B - 1 + (R - C)) = omega arith in
    let eL : L + R - C ≡ L - B + 1 + (B - 1 + (R - C)) = omega arith in
    let s : ℕ = 256 * ((L + R - C) * C) / T in
    let share : s * T ≤ (L + R - C) * (256 * C) = omega (arith, div-mul-le_self (256 * ((L + R - C) * C)) T) in
    let fine : (l + R - C) * (256 * C) ≤ 256 * w * T = omega arith in
    capped_in_proportion (l - B + 1) (L - B + 1) w s
    (in_proportion (256 * C) T (l - B + 1) (L - B + 1) (B - 1 + (R - C)) (256 * w) s pos (omega arith) (rw (← el) fine) (rw (← eL) share))

-- what is reached in proportion, and is all but less than one of the room, leaves none: amounts are whole
none_left : (y Y Q a s : ℕ) → y ≤ Y → 1 ≤ Y → y * a ≤ Y * (256 * s) → 256 * (Y * Q) < a + 256 → y * Q ≤ s
none_left y Y Q a s l some h m =
    let f : 256 * (y * Q) ≤ 256 * s + 255 = le_of_mul-le-mul_left {k = Y} (omega (arith, mul-le-mul_left {m = 256 * (Y * Q) + 1} {n = a + 256} y (omega arith))) some in
    omega arith

module _ (h : Sheet) (R : ℕ → Duration) (k : ℕ) (r : Ready h R k) (L : Duration) (len : Length h k L) where
  module _ (i : ℕ) (b : i < k) (l : ℕ) (low : (row_at h k).budget ≤ l) (high : l ≤ L.0) where
    duration_shares : (X h k (slots l)).0 * (share_of (row_at h i) (R i) L (X h k L)).0 ≤ (X h k L).0 * (256 * (duration_of (row_at h i) (R i) (slots l) (X h k (slots l))).0)
    unfolding duration_of share_of X x
    duration_shares =
        let i-row : LegalRow h.processors (row_at h i) = row h R k r i b in
        share_in_proportion (row_at h i).budget (row_at h i).separation (row_at h k).budget l L.0 (R i).0 _ i-row.some_separation (r.low i b) (own_row h R k r).some_budget low high
        (W_shares (row_at h i) i-row.some_separation (omega arith) (l + (R i).0 - (row_at h i).budget))

    amount_shares : (X h k (slots l)).0 * ((share_of (row_at h i) (R i) L (X h k L)).0 * min (row_at h i).threads (q h k)) ≤ (X h k L).0 * (256 * (amount_of h R k (slots l) i).0)
    unfolding amount_of
    amount_shares = omega (arith, mul-le-mul_right (min (row_at h i).threads (q h k)) duration_shares)

  -- ---- the loop

  pub shares_none : (a : FineAmount) → a.0 ≡ 0 → Shares h R k L 0 a
  shares_none a e = record { small = omega arith; reached = λ l low high. rw e (omega arith) }

  module _ (i b : ℕ) (row : Row) (v w : Duration) (a c : FineAmount) (ec : c ≡ on_fine (share_of row v L w) (min row.threads b)) (now : Shares h R k L i a) (l : i < k) (er : row ≡ row_at h i)
      (ev : v ≡ R i) (ew : w ≡ X h k L) (eb : b ≡ q h k) where
    share_is_of : c.0 ≡ (share_of (row_at h i) (R i) L (X h k L)).0 * min (row_at h i).threads (q h k)
    share_is_of = number_in ec ∙ rw (er, ev, ew, eb)

    share_small : c.0 ≤ 256 * (widest_separation * most_processors)
    unfolding share_of
    share_small = rw share_is_of (most_fine _ _ (omega (arith, X_small h R k r L len)) (omega (arith, q_small h R k r)))

    pub shares_fit : Fits w64 (a.0 + c.0)
    shares_fit = omega (arith, share_small, now.small, few_rows h R k r)

    pub shares_more : (d : FineAmount) → d.0 ≡ a.0 + c.0 → Shares h R k L (i + 1) d
    shares_more d ed =
        record {
          small = omega (arith, share_small, now.small);
          reached = λ j low high. rw (ed, share_is_of, amounts_more h R k r (slots j) i) (omega (arith, now.reached j low high, amount_shares i l j low high));
        }

  pub shares_done : (i : ℕ) (a : FineAmount) → Shares h R k L i a → i ≤ k → k ≤ i → Shares h R k L k a
  shares_done i a s m n = let e : i ≡ k = omega arith in rw e at s

  -- ---- no room

  pub room_told : (a : FineAmount) (o : Amount) (t : Bool) → Shares h R k L k a → o ≡ room h k L → t ≡ ltb (256 * o.0) (a.0 + 256) → AllFail h R k (row_at h k).budget L.0 t
  room_told a o false s eo e = tt
  room_told a o true s eo e = λ l low high.
      fails_where h R k (slots l)
      (none_left (X h k (slots l)).0 (X h k L).0 (q h k) a.0 (amounts h R k (slots l) k).0 (X_mono h k (slots l) L high) (X_some h k L) (s.reached l low high)
      (rw (eo, room_by_q) at (ltb-true (256 * o.0) (a.0 + 256) (sym e))))

-- ---- past the deadline

module _ (h : Sheet) (R : ℕ → Duration) (k : ℕ) (row : Row) (er : row ≡ row_at h k) where
  -- the deadline is a length
  pub deadline_is_length : (d : Duration) → d.0 ≡ row.deadline → Ready h R k → Length h k d
  deadline_is_length d ed r = omega (arith, own_row h R k r, rw er at ed)

  pub after_deadline_fits : (n : ℕ) → Ready h R k → n ≤ widest_separation → Fits w64 (row.deadline + n)
  after_deadline_fits n r l = rw er (omega (arith, own_row h R k r))

  -- past it, where no length up to it passes
  pub past_deadline : (t : Bool) (L z : Duration) → z.0 ≡ row.deadline + 1 → AllFail h R k (row_at h k).budget row.deadline t → t ≡ true → Length h k L → Skips h R k L z
  past_deadline false L z ez s e len = never (cc)
  past_deadline true L z ez s e len = record { further = omega (arith, rw (← er) at len.high); fails = λ l low high. s l (omega arith) (omega arith) }
