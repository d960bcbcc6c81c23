-- A straight line that a row's amount is never below along a stretch, for each of three ways to choose it: its own amounts, its shares, and level. Assumes nothing.
use Rattle.basis.specs.Prelude.{Bool, ◌∙◌, ℕ, ◌+◌, ◌*◌, ◌-◌, ◌%◌, ◌≤◌, min, ◌≡◌, true, mul-le-mul_left, mul-le-mul_right, le_of_mul-le-mul_right, div-mul-le_self, mod-lt, arith, leb-true, leb, Fits, w64}
use Rattle.bound.proofs.Names.{most_processors, lesser_evenly, Row, widest_separation, slots, plus, on, on_fine, x, W, duration_of, share_of, way, Along, RowMeets, lasts, Duration, Amount, FineAmount, Stretch}
use Rattle.bound.proofs.Durations.{most_fine}
use Rattle.bound.proofs.Workload.{W_mono, W_shares, W_evenly}

-- shares of x slots and of c + d more are under the line of what is no less than its share
share_evenly : (C T x c d s t w : ℕ) → 1 ≤ T → s * T ≤ 256 * (x * C) → t * T ≤ 256 * ((x + (c + d)) * C) → (x + d) * C ≤ w * T → c * s + d * t ≤ (c + d) * (256 * w)
share_evenly C T x c d s t w pos hs ht hw = le_of_mul-le-mul_right {k = T} (omega (arith, mul-le-mul_left c hs, mul-le-mul_left d ht, mul-le-mul_left (c + d) hw)) pos

-- ---- one row

module _ (row : Row) (R : Duration) (s : Stretch) (b : ℕ) (al : Along row R s b) where
  some_separation : 1 ≤ row.separation
  some_separation = omega arith

  at_most_budget : row.budget ≤ row.separation
  at_most_budget = omega arith

  -- x at the start of the stretch
  abbrev x₀ : ℕ
  x₀ = s.from.0 + R.0 - row.budget

  module _ (c d : ℕ) (e : c + d ≡ way s) where
    at_end : s.to.0 + R.0 - row.budget ≡ s.from.0 + R.0 - row.budget + (c + d)
    at_end = omega arith

    between : s.from.0 + d + R.0 - row.budget ≡ s.from.0 + R.0 - row.budget + d
    between = omega arith

    late_is : s.late.0 ≡ s.early.0 + (c + d)
    late_is = omega arith

    -- its own amounts, while its present separation lasts
    exact_under : lasts row R s ≡ true
        → c * (duration_of row R s.from s.early).0 + d * (duration_of row R s.to s.late).0
        ≤ (c + d) * (duration_of row R (plus s.from (slots d)) (plus s.early (slots d))).0
    unfolding duration_of x lasts
    exact_under l =
        rw (at_end, between, late_is)
        (lesser_evenly c d _ _ _ _ _ _ (W_evenly row some_separation at_most_budget x₀ c d (rw e (leb-true (x₀ % row.separation + way s) row.separation l))) (omega arith))

    -- what it runs at the start, at both ends
    level_under : c * (duration_of row R s.from s.early).0 + d * (duration_of row R s.from s.late).0
        ≤ (c + d) * (duration_of row R (plus s.from (slots d)) (plus s.early (slots d))).0
    unfolding duration_of x
    level_under =
        rw (between, late_is)
        (lesser_evenly c d _ _ _ _ _ _ (omega (arith, mul-le-mul_left (c + d) (W_mono row some_separation at_most_budget x₀ (x₀ + d) (omega arith)))) (omega arith))

    -- its shares
    share_under : c * (share_of row R s.from s.early).0 + d * (share_of row R s.to s.late).0
        ≤ (c + d) * (256 * (duration_of row R (plus s.from (slots d)) (plus s.early (slots d))).0)
    unfolding share_of duration_of x
    share_under =
        let w : ℕ = (W row (slots (x₀ + d))).0 in
        let f : 256 * min w (s.early.0 + d) ≡ min (256 * w) (256 * (s.early.0 + d)) = omega arith in
        rw (at_end, between, late_is, f)
        (lesser_evenly c d _ _ _ _ _ _
        (share_evenly row.budget row.separation x₀ c d _ _ w some_separation (div-mul-le_self (256 * (x₀ * row.budget)) row.separation)
        (div-mul-le_self (256 * ((x₀ + (c + d)) * row.budget)) row.separation) (W_shares row some_separation at_most_budget (x₀ + d)))
        (omega arith))

  -- whether its present separation lasts
  module _ (z p ran w : Duration) (ep : p.0 ≡ row.separation) (er : ran.0 ≡ z.0 % p.0) (ew : w.0 ≡ s.to.0 - s.from.0) where
    pub lasts_fits : Fits w64 (ran.0 + w.0)
    lasts_fits = omega (arith, rw ep at er, mod-lt z.0 some_separation)

    pub lasts_is : (e o : Duration) (t : Bool) → o.0 ≡ row.separation → t ≡ leb e.0 o.0 → z ≡ x row R s.from → e.0 ≡ ran.0 + w.0 → t ≡ lasts row R s
    unfolding lasts
    lasts_is e o t eo et ez ee = et ∙ rw (eo, ee, er, ep, ew, ez)

  -- the code's three choices
  module _ (n t : Amount) (p z o : FineAmount) (ep : p.0 ≡ 256 * n.0) (ez : z.0 ≡ 256 * t.0) (sn : n.0 ≤ widest_separation * most_processors) (st : t.0 ≤ widest_separation * most_processors) where
    whole_meets : (f g : Duration) → n ≡ on f (min row.threads b) → t ≡ on g (min row.threads b)
        → ((c d : ℕ) → c + d ≡ way s → c * f.0 + d * g.0 ≤ (c + d) * (duration_of row R (plus s.from (slots d)) (plus s.early (slots d))).0)
        → RowMeets row R s b (record { now = p; then = z; spare = o })
    whole_meets f g en et under =
        record { small_now = omega arith; small_then = omega arith; under = λ c d e. rw (ep, ez, en, et) (omega (arith, mul-le-mul_right (min row.threads b) (under c d e))) }

    pub exact_meets : lasts row R s ≡ true → n ≡ on (duration_of row R s.from s.early) (min row.threads b) → t ≡ on (duration_of row R s.to s.late) (min row.threads b)
        → RowMeets row R s b (record { now = p; then = z; spare = o })
    exact_meets l en et = whole_meets _ _ en et (λ c d e. exact_under c d e l)

    pub level_meets : n ≡ on (duration_of row R s.from s.early) (min row.threads b) → t ≡ on (duration_of row R s.from s.late) (min row.threads b)
        → RowMeets row R s b (record { now = p; then = z; spare = o })
    level_meets en et = whole_meets _ _ en et level_under

  share_most : (L Y : Duration) (n : FineAmount) → n ≡ on_fine (share_of row R L Y) (min row.threads b) → Y.0 ≤ widest_separation → n.0 ≤ 256 * (widest_separation * most_processors)
  unfolding share_of
  share_most L Y n e l = rw e (most_fine _ _ (omega arith) (omega arith))

  pub share_meets : (n t o : FineAmount) → n ≡ on_fine (share_of row R s.from s.early) (min row.threads b)
      → t ≡ on_fine (share_of row R s.to s.late) (min row.threads b) → RowMeets row R s b (record { now = n; then = t; spare = o })
  share_meets n t o en et =
      record {
        small_now = share_most s.from s.early n en al.most_early;
        small_then = share_most s.to s.late t et al.most_late;
        under = λ c d e. rw (en, et) (omega (arith, mul-le-mul_right (min row.threads b) (share_under c d e)));
      }
