-- Rows that are added from the top: none, one more, and what their sum tells of the test. Assumes nothing.
use Rattle.basis.specs.Prelude.{ℕ, ◌+◌, ◌≤◌, ◌<◌, min, ◌≡◌, sym, ◌∙◌, Bool, true, leb, leb-true, le-ltb, ltb, arith}
use Rattle.bound.proofs.Names.{most_separation, row_at, Row, Sheet, on, q, X, duration_of, room, passes, Ready, Length, Adds, Fills, stay_of, joined, Duration, Amount, Pace, Added}
use Rattle.bound.proofs.Durations.{number_of_lem}
use Rattle.bound.proofs.Amounts.{room_by_q, first_rows_fail, more_rows_add, sum_none, sum_more}
use Rattle.bound.proofs.Paces.{paces_none, paces_more}

-- ---- what is added

module _ (h : Sheet) (R : ℕ → Duration) (k : ℕ) (r : Ready h R k) (L : Duration) (len : Length h k L) where
  pub adds_none : (s : Amount) (t : Duration) → s.0 ≡ 0 → t.0 ≡ most_separation → Adds h R k L (record { sum = s; pace = record { width = 0; stay = t }; rows = 0 })
  adds_none s t e f = record { within = omega arith; sum = sum_none h R k r L s e; pace = paces_none h R k r L len t f }

  -- one row more
  pub adds_more : (d : Added) → Adds h R k L d → (a : Row) (v w s : Duration) (b g : ℕ) (m t : Amount) (p : Pace) → d.rows < k → a ≡ row_at h d.rows → v ≡ R d.rows → w ≡ X h k L
      → b ≡ q h k → m ≡ on (duration_of a v L w) (min a.threads b) → s ≡ stay_of a v L w → g ≡ min a.threads b → t.0 ≡ d.sum.0 + m.0 → p ≡ joined d.pace g s
      → Adds h R k L (record { sum = t; pace = p; rows = d.rows + 1 })
  adds_more d adds a v w s b g m t p l ea ev ew eb em es eg et ep =
      record {
        within = omega arith;
        sum = sum_more h R k r L v w d.rows b a m d.sum em adds.sum ea ev ew eb t et;
        pace = paces_more h R k r L len d.rows b g a v w s d.pace p ep es eg adds.pace l ea ev ew eb;
      }

-- ---- what the sum tells

module _ (h : Sheet) (R : ℕ → Duration) (k : ℕ) (L : Duration) (d : Added) (adds : Adds h R k L d) where
  -- where it reaches q × X, that the length fails, whatever rows are left
  pub reached_tells : (s a : Amount) (t : Bool) → s ≡ d.sum → a ≡ room h k L → t ≡ leb a.0 s.0 → t ≡ true → passes h R k L ≡ ltb d.sum.0 (room h k L).0
  reached_tells s a t es ea et e =
      let m : (room h k L).0 ≤ d.sum.0 = rw (← ea, ← es) (leb-true a.0 s.0 (sym et ∙ e)) in
      first_rows_fail h R k L d.rows adds.within (omega (arith, m, room_by_q h k L, number_of_lem adds.sum)) ∙ sym (le-ltb d.sum.0 (room h k L).0 m)

  -- where every row is added, what the test says
  pub all_tell : k ≤ d.rows → passes h R k L ≡ ltb d.sum.0 (room h k L).0
  unfolding passes
  all_tell l = let e : d.rows ≡ k = omega (arith, adds.within) in rw (adds.sum, e)

-- more rows reach q × X still
pub fills_still : (h : Sheet) (R : ℕ → Duration) (k : ℕ) (L : Duration) (d n : Added) → n.rows ≡ d.rows + 1 → Adds h R k L d → Adds h R k L n → Fills h k L d → Fills h k L n
fills_still h R k L d n l adds more full = omega (arith, number_of_lem adds.sum, number_of_lem more.sum, more_rows_add h R k L d.rows n.rows (omega arith))
