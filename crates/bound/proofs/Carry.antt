-- A bound carried over from a row above that is no wider: lengths that fail for that row, weighed for row k, fail for it too. Assumes nothing.
use Rattle.basis.specs.Prelude.{ℕ, ◌+◌, ◌*◌, ◌-◌, ◌≤◌, ◌<◌, min, max, ◌≡◌, refl, ap, Bool, true, false, ⊎_elim, mul-le-mul, mul-le-mul_left, mul-le-mul_right, le_of_mul-le-mul_right, arith, ltb-true, ltb-false, leb-true, leb-false, ltb, leb}
use Rattle.bound.proofs.Names.{most_processors, pick, sum, lt_or_le, sum_grows, sum_weighed, row_at, LegalRow, Row, Sheet, slots, plus, minus, C, q, X, x, W, duration_of, amount_of, amounts, room, passes, Ready, Above, carried_of, Starts, Duration}
use Rattle.bound.proofs.Amounts.{q_some, room_by_q, fails_where, row, own_row, row_above, amounts_more}
use Rattle.bound.proofs.Workload.{W_mono, W_least}

-- threads capped at fewer processors lose no more than in proportion
weighs : (m a b : ℕ) → a ≤ b → min m b * a ≤ min m a * b
weighs m a b l =
    ⊎_elim
    (λ s. let e : min m b ≡ m = omega arith in let f : min m a ≡ m = omega arith in rw (e, f) (mul-le-mul_left m l))
    (λ s. let f : min m a ≡ a = omega arith in rw f (omega (arith, mul-le-mul_right {m = min m b} {n = b} a (omega arith))))
    (lt_or_le m a)

module _ (h : Sheet) (R : ℕ → Duration) (k : ℕ) (r : Ready h R k) where
  -- more rows have no smaller sum
  all_rows : (l : Duration) (n : ℕ) → n ≤ k → (amounts h R k l n).0 ≤ (amounts h R k l k).0
  unfolding amounts
  all_rows l n c = sum_grows n k (λ i. (amount_of h R k l i).0) c

  module _ (j : ℕ) (b : j < k) (narrow : (row_at h j).threads ≤ (row_at h k).threads) where
    -- ---- the sum of the rows above row j, weighed for row k

    module _ (L l : Duration) (longer : L.0 ≤ l.0) (wider : (X h j L).0 ≤ (X h k l).0) where
      amount_weighed : (i : ℕ) → i < j → (amount_of h R j L i).0 * q h k ≤ (amount_of h R k l i).0 * q h j
      unfolding amount_of duration_of x q
      amount_weighed i c =
          let a : Row = row_at h i in
          let o : LegalRow h.processors a = row h R k r i (omega arith) in
          omega (
            arith,
            mul-le-mul {n₁ = min (W a (slots (L.0 + (R i).0 - a.budget))).0 (X h j L).0} {n₂ = min (W a (slots (l.0 + (R i).0 - a.budget))).0 (X h k l).0}
                (omega (arith, W_mono a o.some_separation (omega arith) (L.0 + (R i).0 - a.budget) (l.0 + (R i).0 - a.budget) (omega arith)))
                (weighs a.threads (h.processors - (row_at h k).threads + 1) (h.processors - (row_at h j).threads + 1) (omega arith)),
          )

      sum_carried : passes h R j L ≡ false → (X h j L).0 * q h k ≤ (amounts h R k l j).0
      unfolding passes amounts
      sum_carried fail =
          le_of_mul-le-mul_right {k = q h j}
          (omega (
            arith,
            mul-le-mul_right (q h k) (rw (room_by_q h j L) at (ltb-false (sum j (λ i. (amount_of h R j L i).0)) (room h j L).0 fail)),
            sum_weighed j (q h k) (q h j) (λ i. (amount_of h R j L i).0) (λ i. (amount_of h R k l i).0) amount_weighed,
          ))
          (q_some h j)

    -- a row with no larger budget: where it fails, row k fails at the same X
    same_X_fails : (row_at h j).budget ≤ (row_at h k).budget → (l : ℕ) → (row_at h k).budget ≤ l → l < (R j).0 - (row_at h j).budget + (row_at h k).budget → passes h R k (slots l) ≡ false
    unfolding X
    same_X_fails small l low high =
        let L : ℕ = l - (row_at h k).budget + (row_at h j).budget in
        let s : (X h j (slots L)).0 ≡ (X h k (slots l)).0 = omega arith in
        fails_where h R k (slots l)
        (omega (
          arith,
          all_rows (slots l) j (omega arith),
          rw s at (sum_carried (slots L) (slots l) (omega arith) (omega arith) (r.smallest j b L (omega arith) (omega (arith, r.low j b)))),
        ))

    -- a row with a larger budget that never runs beside row k: where it fails, row k fails at the same length
    module _ (large : (row_at h k).budget < (row_at h j).budget) (apart : h.processors < (row_at h j).threads + (row_at h k).threads) (l : ℕ) (low : (row_at h k).budget ≤ l) where
      with_row : (n : ℕ) → n ≤ min (row_at h j).budget l → n ≤ (X h k (slots l)).0 → (amounts h R k (slots l) j).0 + n * q h k ≤ (amounts h R k (slots l) k).0
      unfolding amount_of duration_of x q
      with_row n c d =
          let p : ℕ = h.processors - (row_at h k).threads + 1 in
          let s : ℕ = l + (R j).0 - (row_at h j).budget in
          let g : min (row_at h j).threads p ≡ p = omega (arith, own_row h R k r) in
          let ran : min (row_at h j).budget s ≤ (W (row_at h j) (slots s)).0 = W_least (row_at h j) (row h R k r j b).some_separation (omega (arith, row h R k r j b)) s in
          let own : n * p ≤ min (W (row_at h j) (slots s)).0 (X h k (slots l)).0 * min (row_at h j).threads p = rw g (mul-le-mul_right p (omega (arith, r.low j b))) in
          omega (arith, amounts_more h R k r (slots l) j, all_rows (slots l) (j + 1) (omega arith))

      same_length_fails : l < (R j).0 → passes h R k (slots l) ≡ false
      unfolding X
      same_length_fails high =
          fails_where h R k (slots l)
          (⊎_elim
          (λ c. omega (arith, with_row (l - (row_at h k).budget + 1) (omega (arith, own_row h R k r)) (omega arith)))
          (λ c. omega (
            arith,
            with_row ((row_at h j).budget - (row_at h k).budget) (omega arith) (omega arith),
            sum_carried (slots l) (slots l) (omega arith) (omega arith) (r.smallest j b l c high),
            mul-le-mul_right {m = l - (row_at h k).budget + 1} {n = l - (row_at h j).budget + 1 + ((row_at h j).budget - (row_at h k).budget)} (q h k) (omega arith),
          ))
          (lt_or_le l (row_at h j).budget))

  -- ---- the loop over the rows above

  pub start_at_budget : (a : Row) (c : Duration) → a ≡ row_at h k → c.0 ≡ a.budget → Starts h R k c
  start_at_budget a c ea ec = let e : c.0 ≡ (row_at h k).budget = rw ea at ec in record { low = omega arith; fails = λ l low d. absurd (omega arith) }

  pub threads_small : (a : Row) → a ≡ row_at h k → a.threads ≤ most_processors
  threads_small a ea = rw ea (omega (arith, own_row h R k r))

  module _ (j m : ℕ) (b : j < k) (a o : Row) (v : Duration) (ea : a ≡ row_at h k) (eo : o ≡ row_at h j) (ev : v ≡ R j) where
    pub above_budget : Above o v (C a)
    above_budget = row_above h R k r j o v (C a) b eo ev (rw ea (record { low = omega arith; high = (own_row h R k r).at_most_budget }))

    pub carried_starts : (z : Duration) → m ≡ h.processors → z ≡ carried_of m a o v → Starts h R k z
    unfolding carried_of
    carried_starts z em ez = rw (ez, em, ea, eo, ev)
        (go (ltb (row_at h k).threads (row_at h j).threads) refl (leb (row_at h j).budget (row_at h k).budget) refl (ltb h.processors ((row_at h j).threads + (row_at h k).threads)) refl)
      where
        go : (e : Bool) → ltb (row_at h k).threads (row_at h j).threads ≡ e → (f : Bool) → leb (row_at h j).budget (row_at h k).budget ≡ f
            → (g : Bool) → ltb h.processors ((row_at h j).threads + (row_at h k).threads) ≡ g
            → Starts h R k (pick e (C (row_at h k)) (pick f (plus (minus (R j) (C (row_at h j))) (C (row_at h k))) (pick g (R j) (C (row_at h k)))))
        go true ee f ef g eg = start_at_budget (row_at h k) (C (row_at h k)) refl refl
        go false ee true ef g eg = record { low = omega arith; fails = same_X_fails j b (ltb-false _ _ ee) (leb-true _ _ ef) }
        go false ee false ef true eg =
            let large : (row_at h k).budget < (row_at h j).budget = leb-false _ _ ef in
            record { low = omega (arith, r.low j b); fails = same_length_fails j b (ltb-false _ _ ee) large (ltb-true _ _ eg) }
        go false ee false ef false eg = start_at_budget (row_at h k) (C (row_at h k)) refl refl

  pub start_later : (a b c : Duration) → Starts h R k a → Starts h R k b → c.0 ≡ max a.0 b.0 → Starts h R k c
  start_later a b c sa sb e = record { low = omega arith; fails = λ l low d. ⊎_elim (λ s. sa.fails l low s) (λ s. sb.fails l low (omega arith)) (lt_or_le l a.0) }

-- ---- one row above, as the code has it

pub carried_is : (m : ℕ) (a o : Row) (v c d w y : Duration) → c.0 ≡ a.budget → d.0 ≡ o.budget → w.0 ≡ v.0 - d.0 → y.0 ≡ w.0 + c.0
    → (g f e : Bool) → g ≡ ltb m (o.threads + a.threads) → f ≡ leb o.budget a.budget → e ≡ ltb a.threads o.threads
    → (t u z : Duration) → t ≡ pick g v c → u ≡ pick f y t → z ≡ pick e c u → z ≡ carried_of m a o v
unfolding carried_of
carried_is m a o v c d w y ec ed ew ey g f e eg ef ee t u z et eu ez = let es : y ≡ plus (minus v (C o)) (C a) = ap slots (omega arith) in cc (ap slots ec)
