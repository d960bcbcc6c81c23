-- The pace at which the sum of the amounts grows with the length: what the loop over the rows above joins. Assumes nothing.
use Rattle.basis.specs.Prelude.{ℕ, ◌+◌, ◌*◌, ◌-◌, ◌%◌, ◌≤◌, ◌<◌, min, ◌≡◌, ap, Bool, true, false, mul-le-mul_right, arith, ltb, Fits, w64}
use Rattle.bound.proofs.Names.{most_processors, most_separation, pick, sum, row_at, LegalRow, Row, Sheet, widest_rows, slots, plus, lesser, q, X, x, W, duration_of, amount_of, amounts, Ready, Length, Paces, stay_of, joined, Duration, Pace}
use Rattle.bound.proofs.Durations.{number}
use Rattle.bound.proofs.Workload.{W_runs_on}
use Rattle.bound.proofs.Amounts.{row, q_small, amounts_more, amount_mono}

capped_grows : (w z g x d : ℕ) → w + min d g ≤ z → d ≤ g + (w - x) → min w x + d ≤ min z (x + d)
capped_grows w z g x d a b = omega arith

-- a row's duration keeps pace while the row stays
pub duration_grows : (r : Row) (R L X : Duration) (d : ℕ) → 1 ≤ r.separation → r.budget ≤ r.separation → r.budget ≤ R.0 → d ≤ (stay_of r R L X).0
    → (duration_of r R L X).0 + d ≤ (duration_of r R (plus L (slots d)) (plus X (slots d))).0
unfolding duration_of stay_of x
duration_grows r R L X d pos fits low h =
    let s : ℕ = L.0 + R.0 - r.budget in
    let e : L.0 + d + R.0 - r.budget ≡ L.0 + R.0 - r.budget + d = omega arith in
    capped_grows (W r (slots s)).0 (W r (slots (L.0 + d + R.0 - r.budget))).0 (r.budget - s % r.separation) X.0 d
    (rw e (W_runs_on r pos fits s d)) h

module _ (h : Sheet) (R : ℕ → Duration) (k : ℕ) (r : Ready h R k) (L : Duration) (len : Length h k L) where
  pub X_more : (d : ℕ) → X h k (plus L (slots d)) ≡ plus (X h k L) (slots d)
  unfolding X
  X_more d = ap slots (omega arith)

  amount_grows : (i d : ℕ) → i < k → d ≤ (stay_of (row_at h i) (R i) L (X h k L)).0
      → (amount_of h R k L i).0 + min (row_at h i).threads (q h k) * d ≤ (amount_of h R k (plus L (slots d)) i).0
  unfolding amount_of
  amount_grows i d b s =
      let o : LegalRow h.processors (row_at h i) = row h R k r i b in
      rw (X_more d) (omega (arith, mul-le-mul_right (min (row_at h i).threads (q h k)) (duration_grows (row_at h i) (R i) L (X h k L) d o.some_separation (omega arith) (r.low i b) s)))

  pub paces_none : (s : Duration) → s.0 ≡ most_separation → Paces h R k L 0 (record { width = 0; stay = s })
  unfolding amounts sum
  paces_none s e = record { width = omega arith; stay = omega arith; grows = λ d l. omega arith }

  pub paces_more : (i b g : ℕ) (a : Row) (v w s : Duration) (p t : Pace) → t ≡ joined p g s → s ≡ stay_of a v L w → g ≡ min a.threads b → Paces h R k L i p → i < k → a ≡ row_at h i → v ≡ R i
      → w ≡ X h k L → b ≡ q h k → Paces h R k L (i + 1) t
  unfolding joined
  paces_more i b g a v w s p t et es eg now l ea ev ew eb = go (ltb 0 s.0) et where
    stay_is : s ≡ stay_of (row_at h i) (R i) L (X h k L)
    stay_is = rw (ea, ev, ew) at es

    capped_is : g ≡ min (row_at h i).threads (q h k)
    capped_is = rw (ea, eb) at eg

    go : (e : Bool) → t ≡ pick e (record { width = p.width + g; stay = lesser p.stay s }) p → Paces h R k L (i + 1) t
    go false e =
        rw e
        (record {
          width = omega arith;
          stay = now.stay;
          grows = λ d m.
              omega (arith, now.grows d m, amounts_more h R k r L i, amounts_more h R k r (plus L (slots d)) i, amount_mono h R k r L (plus L (slots d)) i (omega arith) l);
        })
    go true e =
        rw e
        (record {
          width = omega (arith, q_small h R k r);
          stay = omega arith;
          grows = λ d m.
              rw capped_is
              (omega (arith, now.grows d (omega arith), amounts_more h R k r L i, amounts_more h R k r (plus L (slots d)) i, amount_grows i d l (omega (arith, number stay_is))));
        })

-- a pace with a row more, as the code makes it
pub join_fits : (n g w : ℕ) (b : Bool) → n ≤ widest_rows * most_processors → g ≤ most_processors → w ≡ pick b g 0 → Fits w64 (n + w)
join_fits n g w true few small e = omega arith
join_fits n g w false few small e = omega arith

pub join_more : (p : Pace) (g w : ℕ) (n s u t : Duration) (b : Bool) → n.0 ≡ 0 → b ≡ ltb n.0 s.0 → w ≡ pick b g 0 → u ≡ pick b s p.stay → t.0 ≡ min p.stay.0 u.0
    → ◌≡◌ {A = Pace} (record { width = p.width + w; stay = t }) (joined p g s)
unfolding joined
join_more p g w n s u t b en eb ew eu et = rw (← (rw en at eb)) (go b ew eu) where
  go : (b : Bool) → w ≡ pick b g 0 → u ≡ pick b s p.stay → ◌≡◌ {A = Pace} (record { width = p.width + w; stay = t }) (pick b (record { width = p.width + g; stay = lesser p.stay s }) p)
  go true ew eu = let e : t ≡ lesser p.stay s = ap slots (omega (arith, number eu)) in λ i. record { width = p.width + ew i; stay = e i }
  go false ew eu =
      let e : t ≡ p.stay = ap slots (omega (arith, number eu)) in
      let f : p.width + w ≡ p.width = omega arith in
      λ i. record { width = f i; stay = e i }
