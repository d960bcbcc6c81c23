-- The smallest number of which a test holds: found, passed over, in range; and the turns of the search. Assumes nothing.
use Rattle.basis.specs.Prelude.{ℕ, zero, suc, ◌+◌, ◌-◌, ◌≤◌, ◌<◌, ◌≡◌, refl, sym, ◌∙◌, Bool, true, false, ◌⊎◌, inl, inr, ⊎_elim, eq-or-lt_of_le, arith}
use Rattle.bound.proofs.Names.{lt_or_le, row_at, Row, Sheet, passes, bound, none, unreached, least, passes_at, bound_by, Length, Skips, Starts, Says, Duration, FineAmount}
use Rattle.std.specs.Prelude.{Option, None, Some}

-- what cannot be: two words for one result
pub never : {A : Type 0} → ◌≡◌ {A = ℕ} 0 1 → A
never z = absurd (omega arith)

-- a test that is told to hold does
pub told_true : (t b : Bool) → t ≡ b → t ≡ true → b ≡ true
told_true t b e f = sym e ∙ f

-- ---- the numbers from l on, below e

module _ (p : ℕ → Bool) where
  least_none : (l e : ℕ) → e ≤ l → least p l (e - l) ≡ none
  unfolding least
  least_none l e h = let z : e - l ≡ 0 = omega arith in rw z

  pub least_hit : (l e : ℕ) → l < e → p l ≡ true → least p l (e - l) ≡ bound l
  unfolding least
  least_hit l e h t = let z : e - l ≡ suc (e - suc l) = omega arith in rw (z, t)

  least_miss : (l e : ℕ) → l < e → p l ≡ false → least p l (e - l) ≡ least p (suc l) (e - suc l)
  unfolding least
  least_miss l e h t = let z : e - l ≡ suc (e - suc l) = omega arith in rw (z, t)

  -- numbers that fail can be passed over
  pub least_skip : (d l r e : ℕ) → r ≡ l + d → ((j : ℕ) → l ≤ j → j < r → p j ≡ false) → least p l (e - l) ≡ least p r (e - r)
  least_skip zero l r e s f = let z : l ≡ r = omega arith in rw z
  least_skip (suc d) l r e s f =
      ⊎_elim (λ h. least_miss l e h (f l (omega arith) (omega arith)) ∙ least_skip d (suc l) r e (omega arith) (λ j a b. f j (omega arith) b))
      (λ h. least_none l e h ∙ sym (least_none r e (omega arith)))
      (lt_or_le l e)

  -- the one that is found is the smallest of them
  pub record Smallest (l e r : ℕ) : Type 0 where
    pub low : l ≤ r
    pub high : r < e
    pub holds : p r ≡ true
    pub first : (j : ℕ) → l ≤ j → j < r → p j ≡ false

  pub smallest_is_least : (l e r : ℕ) → Smallest l e r → least p l (e - l) ≡ bound r
  smallest_is_least l e r s = least_skip (r - l) l r e (omega arith) s.first ∙ least_hit r e s.high s.holds

  pub none_is_least : (l e : ℕ) → ((j : ℕ) → l ≤ j → j < e → p j ≡ false) → least p l (e - l) ≡ none
  none_is_least l e f = ⊎_elim (λ h. least_skip (e - l) l e e (omega arith) f ∙ least_none e e (omega arith)) (λ h. least_none l e h) (lt_or_le l e)

  -- there is a smallest, or none
  some_or_none : (n l e : ℕ) → e - l ≡ n → ((r : ℕ) × (Smallest l e r)) ⊎ ((j : ℕ) → l ≤ j → j < e → p j ≡ false)
  some_or_none zero l e z = inr (λ j a b. absurd (omega arith))
  some_or_none (suc n) l e z = go (p l) refl (some_or_none n (suc l) e (omega arith)) where
    go : (b : Bool) → p l ≡ b → ((r : ℕ) × (Smallest (suc l) e r)) ⊎ ((j : ℕ) → suc l ≤ j → j < e → p j ≡ false)
        → ((r : ℕ) × (Smallest l e r)) ⊎ ((j : ℕ) → l ≤ j → j < e → p j ≡ false)
    go true t f = inl (l, record { low = omega arith; high = omega arith; holds = t; first = λ j a b. absurd (omega arith) })
    go false t (inl (r, s)) =
        inl (r, record { low = omega arith; high = s.high; holds = s.holds; first = λ j a b. ⊎_elim (λ q. rw q at t) (λ q. s.first j q b) (eq-or-lt_of_le a) })
    go false t (inr f) = inr (λ j a b. ⊎_elim (λ q. rw q at t) (λ q. f j q b) (eq-or-lt_of_le a))

  module _ (l e : ℕ) where
    -- so the one that is found is the smallest; where none is found, none holds; and it is one of the two
    pub least_found : (r : ℕ) → least p l (e - l) ≡ bound r → Smallest l e r
    least_found r g =
        ⊎_elim (λ c. let z : c.0 ≡ r = cc (smallest_is_least l e c.0 c.1) in rw z at c.1) (λ f. never (cc (none_is_least l e f))) (some_or_none (e - l) l e refl)

    pub none_holds : least p l (e - l) ≡ none → (j : ℕ) → l ≤ j → j < e → p j ≡ false
    none_holds g = ⊎_elim (λ c. never (cc (smallest_is_least l e c.0 c.1))) (λ f. f) (some_or_none (e - l) l e refl)

    pub least_never_unreached : least p l (e - l) ≡ unreached → ⊥
    least_never_unreached g = ⊎_elim (λ c. never (cc (smallest_is_least l e c.0 c.1))) (λ f. never (cc (none_is_least l e f))) (some_or_none (e - l) l e refl)

pub least_same : (p s : ℕ → Bool) → ((l : ℕ) → p l ≡ s l) → (n l : ℕ) → least p l n ≡ least s l n
unfolding least
least_same p s e zero l = refl
least_same p s e (suc n) l = rw (e l, least_same p s e n (suc l))

-- ---- the search

pub search_starts : (h : Sheet) (R : ℕ → Duration) (k : ℕ) (L : Duration) → Starts h R k L → least (passes_at passes h R k) L.0 ((row_at h k).deadline + 1 - L.0) ≡ bound_by passes h R k
unfolding bound_by
search_starts h R k L s =
    sym (least_skip (passes_at passes h R k) (L.0 - (row_at h k).budget) (row_at h k).budget L.0 ((row_at h k).deadline + 1) (omega arith) s.fails)

module _ (h : Sheet) (R : ℕ → Duration) (k : ℕ) (row : Row) (er : row ≡ row_at h k) where
  pub length_of_row : (L : Duration) (n : ℕ) → (row_at h k).budget ≤ L.0 → n ≤ row.deadline → n ≡ L.0 → Length h k L
  length_of_row L n a b en = record { low = a; high = rw (er, en) at b }

  module _ (L : Duration) where
    told_passes : (t : Option (Duration × FineAmount)) → Says h R k L t → t ≡ None → passes h R k L ≡ true
    told_passes None s e = s
    told_passes (Some n) s e = never (cc)

    pub told_next : (t : Option (Duration × FineAmount)) (n : Duration) (o : FineAmount) → Says h R k L t → t ≡ Some (n, o) → Skips h R k L n
    told_next None n o s e = never (cc)
    told_next (Some m) n o s e = let z : m ≡ (n, o) = cc in rw z at s

    pub search_less : (n : Duration) (m : ℕ) → Skips h R k L n → m ≤ row.deadline → m ≡ L.0 → (row_at h k).deadline + 1 - n.0 < (row_at h k).deadline + 1 - L.0
    search_less n m s b em = omega (arith, rw er at b)

    module _ (i : least (passes_at passes h R k) L.0 ((row_at h k).deadline + 1 - L.0) ≡ bound_by passes h R k) where
      pub search_found : (t : Option (Duration × FineAmount)) (n m : ℕ) → n ≡ L.0 → Says h R k L t → t ≡ None → m ≤ row.deadline → m ≡ L.0 → bound n ≡ bound_by passes h R k
      search_found t n m en s e b em = rw en (sym (least_hit (passes_at passes h R k) L.0 ((row_at h k).deadline + 1) (omega (arith, rw er at b)) (told_passes t s e)) ∙ i)

      pub search_more : (n : Duration) → Skips h R k L n → least (passes_at passes h R k) n.0 ((row_at h k).deadline + 1 - n.0) ≡ bound_by passes h R k
      search_more n w = sym (least_skip (passes_at passes h R k) (n.0 - L.0) L.0 n.0 ((row_at h k).deadline + 1) (omega arith) w.fails) ∙ i

      pub search_ends : (n : ℕ) → row.deadline < n → n ≡ L.0 → none ≡ bound_by passes h R k
      search_ends n b en = sym (least_none (passes_at passes h R k) L.0 ((row_at h k).deadline + 1) (omega (arith, rw er at b))) ∙ i
