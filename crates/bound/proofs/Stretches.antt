-- A stretch of lengths is decided at its two ends, by straight lines that the rows above are never below; and the step over such a stretch. Assumes nothing.
use Rattle.basis.specs.Prelude.{ℕ, ◌+◌, ◌*◌, ◌-◌, ◌≤◌, ◌<◌, ◌≡◌, sym, ◌∙◌, Bool, true, false, mul-le-mul_left, le_of_mul-le-mul_left, arith, ltb-true, ltb, Fits, w64}
use Rattle.bound.proofs.Names.{row_at, Row, Sheet, widest_separation, slots, plus, q, X, amount_of, room, Ready, Length, Skips, way, Stretches, Along, amount_along, RowMeets, RowsMeet, AllFail, Duration, Amount, FineAmount, Stretch}
use Rattle.bound.specs.declared.stretch.Ends.{Ends}
use Rattle.bound.proofs.Inside.Lengths.{never}
use Rattle.bound.proofs.Durations.{number, number_in}
use Rattle.bound.proofs.Amounts.{few_rows, own_row, row_above, q_small, X_small, room_by_q, fails_where, amounts_more}
use Rattle.bound.proofs.Paces.{X_more}

-- a line that comes, at both ends, within less than one of what Q processors take keeps whole amounts from falling below that
ends_decide : (c d a b s y Q : ℕ) → 1 ≤ c + d → c * a + d * b ≤ (c + d) * (256 * s) → 256 * (y * Q) < a + 256 → 256 * ((y + (c + d)) * Q) < b + 256 → (y + d) * Q ≤ s
ends_decide c d a b s y Q some h m n =
    let f : 256 * ((y + d) * Q) + 1 ≤ 256 * s + 256 =
    le_of_mul-le-mul_left {k = c + d}
    (omega (arith, mul-le-mul_left {m = 256 * (y * Q) + 1} {n = a + 256} c (omega arith), mul-le-mul_left {m = 256 * ((y + (c + d)) * Q) + 1} {n = b + 256} d (omega arith))) some
    in
    omega arith

-- ---- all rows

module _ (h : Sheet) (R : ℕ → Duration) (k : ℕ) (r : Ready h R k) (s : Stretch) (st : Stretches h k s) where
  late_later : s.late.0 ≡ s.early.0 + way s
  unfolding X
  late_later = omega (arith, number st.early, number st.late)

  pub row_along : (i b : ℕ) (a : Row) (v : Duration) → i < k → a ≡ row_at h i → v ≡ R i → b ≡ q h k → Along a v s b
  row_along i b a v l ea ev eb =
      record {
        from = row_above h R k r i a v s.from l ea ev st.from;
        to = row_above h R k r i a v s.to l ea ev st.to;
        further = st.further;
        late = late_later;
        most_early = omega (arith, number st.early, X_small h R k r s.from st.from);
        most_late = omega (arith, number st.late, X_small h R k r s.to st.to);
        most_q = omega (arith, q_small h R k r);
      }

  pub meet_none : (n t o : FineAmount) → n.0 ≡ 0 → t.0 ≡ 0 → RowsMeet h R k s 0 (record { now = n; then = t; spare = o })
  meet_none n t o en et = record { small_now = omega arith; small_then = omega arith; under = λ c d e. rw (en, et) (omega arith) }

  module _ (i b : ℕ) (row : Row) (v : Duration) (e m : Ends) (one : RowMeets row v s b m) (now : RowsMeet h R k s i e) (l : i < k) (er : row ≡ row_at h i) (ev : v ≡ R i)
      (eb : b ≡ q h k) where
    along_is : (d : ℕ) → amount_along row v s b d ≡ amount_of h R k (plus s.from (slots d)) i
    unfolding amount_of
    along_is d = rw (er, ev, eb, X_more h R k r s.from st.from d, ← st.early)

    pub meet_more : (n t o : FineAmount) → n.0 ≡ e.now.0 + m.now.0 → t.0 ≡ e.then.0 + m.then.0 → RowsMeet h R k s (i + 1) (record { now = n; then = t; spare = o })
    meet_more n t o en et =
        record {
          small_now = omega arith;
          small_then = omega arith;
          under = λ c d w. rw (en, et, amounts_more h R k r (plus s.from (slots d)) i, ← along_is d) (omega (arith, now.under c d w, one.under c d w));
        }

  pub meet_done : (i : ℕ) (e : Ends) → RowsMeet h R k s i e → i ≤ k → k ≤ i → RowsMeet h R k s k e
  meet_done i e m a b = let z : i ≡ k = omega arith in rw z at m

  module _ (e : Ends) (m : RowsMeet h R k s k e) where
    pub then_rounds : (n : FineAmount) → n ≡ e.then → Fits w64 (n.0 + 256)
    then_rounds n en = omega (arith, number_in en, few_rows h R k r)

    -- each length of the stretch fails
    pub stretch_told : (n t : FineAmount) (f z : Amount) (v u : Bool) (from to : Duration) → n ≡ e.now → t ≡ e.then → f ≡ room h k from → z ≡ room h k to → s.from ≡ from
        → s.to ≡ to → v ≡ ltb (256 * f.0) (n.0 + 256) → v ≡ true → u ≡ ltb (256 * z.0) (t.0 + 256) → AllFail h R k from.0 to.0 u
    stretch_told n t f z v false from to en et ef ez efrom eto ev tv eu = tt
    stretch_told n t f z v true from to en et ef ez efrom eto ev tv eu = λ l low high.
        let c : ℕ = s.to.0 - l in
        let d : ℕ = l - s.from.0 in
        let w : c + d ≡ way s = omega (arith, number efrom, number eto) in
        let g : l ≡ s.from.0 + d = omega (arith, number efrom) in
        let late_is : (X h k s.to).0 ≡ (X h k s.from).0 + (c + d) = omega (arith, number st.early, number st.late, late_later) in
        let first : 256 * ((X h k s.from).0 * q h k) < e.now.0 + 256 = rw (en, ef, ← efrom, room_by_q) at (ltb-true (256 * f.0) (n.0 + 256) (sym ev ∙ tv)) in
        let last : 256 * (((X h k s.from).0 + (c + d)) * q h k) < e.then.0 + 256 = rw (et, ez, ← eto, room_by_q, late_is) at (ltb-true (256 * z.0) (t.0 + 256) (sym eu)) in
        rw g
        (fails_where h R k (plus s.from (slots d))
        (rw (X_more h R k r s.from st.from d) (ends_decide c d e.now.0 e.then.0 _ _ (q h k) (omega arith) (m.under c d w) first last)))

-- ---- a step over a stretch

module _ (h : Sheet) (R : ℕ → Duration) (k : ℕ) (r : Ready h R k) (row : Row) (er : row ≡ row_at h k) (l : Duration) (el : l.0 ≡ row.deadline) where
  pub deadline_small : l.0 ≤ widest_separation
  deadline_small = omega (arith, own_row h R k r, rw er at el)

  module _ (L d e : Duration) (len : Length h k L) (ee : e.0 ≡ L.0 + d.0) (m : L.0 + d.0 ≤ l.0) where
    pub end_is_length : Length h k e
    end_is_length = record { low = omega arith; high = omega (arith, rw er at el) }

    pub after_end_fits : (n : ℕ) → n ≤ widest_separation → Fits w64 (e.0 + n)
    after_end_fits n s = omega (arith, deadline_small)

    pub twice_fits : Fits w64 (2 * d.0)
    twice_fits = omega (arith, deadline_small)

pub over_skips : (h : Sheet) (R : ℕ → Duration) (k : ℕ) (L d e z : Duration) (t : Bool) → z.0 ≡ e.0 + 1 → AllFail h R k L.0 e.0 t → t ≡ true → e.0 ≡ L.0 + d.0
    → Skips h R k L z
over_skips h R k L d e z false ez f t ee = never (cc)
over_skips h R k L d e z true ez f t ee = record { further = omega arith; fails = λ l a b. f l a (omega arith) }
