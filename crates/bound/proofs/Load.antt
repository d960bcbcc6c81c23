-- A load that reaches q leaves nothing: where the rows above take, of every slot, as many processors as row k leaves them, no length passes. Assumes nothing.
use Rattle.basis.specs.Prelude.{ℕ, ◌+◌, ◌*◌, ◌-◌, ◌/◌, ◌≤◌, ◌<◌, min, ◌≡◌, false, ⊎_elim, mul-le-mul_left, mul-le-mul_right, le_of_mul-le-mul_right, div-mul-le_self, arith}
use Rattle.bound.proofs.Names.{sum, lt_or_le, sum_weighed, row_at, LegalRow, Sheet, slots, q, X, x, W, duration_of, amount_of, amounts, passes, Ready, Duration}
use Rattle.bound.proofs.Workload.{W_shares}
use Rattle.bound.proofs.Amounts.{row, own_row, fails_where}

-- The load of row i on the processors that row k leaves, in parts of which Q make a processor: its capped threads, times its share of every slot rounded down.
abbrev pub load : Sheet → ℕ → ℕ → ℕ → ℕ
load h k Q i = min (row_at h i).threads (q h k) * ((row_at h i).budget * Q / (row_at h i).separation)

-- a share of X, in parts, is no more than what is capped at X
share_capped : (C T Y s w Q u : ℕ) → 1 ≤ T → C ≤ T → Y ≤ s → s * C ≤ w * T → u * T ≤ C * Q → Y * u ≤ min w Y * Q
share_capped C T Y s w Q u pos fits l hw hu =
    ⊎_elim
    (λ m. let e : min w Y ≡ w = omega arith in rw e (le_of_mul-le-mul_right {k = T} (omega (arith, mul-le-mul_left Y hu, mul-le-mul_right (C * Q) l, mul-le-mul_right Q hw)) pos))
    (λ m. let e : min w Y ≡ Y = omega arith in rw e (mul-le-mul_left Y (le_of_mul-le-mul_right {m = u} {n = Q} {k = T} (omega (arith, mul-le-mul_right Q fits)) pos)))
    (lt_or_le w Y)

module _ (h : Sheet) (R : ℕ → Duration) (k : ℕ) (r : Ready h R k) (Q l : ℕ) (low : (row_at h k).budget ≤ l) where
  amount_loaded : (i : ℕ) → i < k → load h k Q i * (X h k (slots l)).0 ≤ (amount_of h R k (slots l) i).0 * Q
  unfolding amount_of duration_of X x
  amount_loaded i b =
      let o : LegalRow h.processors (row_at h i) = row h R k r i b in
      let fits : (row_at h i).budget ≤ (row_at h i).separation = omega arith in
      let s : ℕ = l + (R i).0 - (row_at h i).budget in
      let m = share_capped (row_at h i).budget (row_at h i).separation (l - (row_at h k).budget + 1) s (W (row_at h i) (slots s)).0 Q _ o.some_separation fits
      (omega (arith, r.low i b, (own_row h R k r).some_budget)) (W_shares (row_at h i) o.some_separation fits s) (div-mul-le_self ((row_at h i).budget * Q) (row_at h i).separation) in
      omega (arith, mul-le-mul_right (min (row_at h i).threads (q h k)) m)

  pub load_reaches_q : 1 ≤ Q → q h k * Q ≤ sum k (load h k Q) → passes h R k (slots l) ≡ false
  unfolding amounts
  load_reaches_q some full =
      let loads = sum_weighed k (X h k (slots l)).0 Q (load h k Q) (λ i. (amount_of h R k (slots l) i).0) amount_loaded in
      fails_where h R k (slots l) (le_of_mul-le-mul_right {k = Q} (omega (arith, mul-le-mul_left (X h k (slots l)).0 full)) some)
