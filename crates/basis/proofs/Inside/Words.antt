-- Laws of tests: of both, of a range, of all below a number. Assumes nothing.
use Rattle.basis.specs.Prelude.{ℕ, zero, suc, ◌+◌, ◌≤◌, ◌<◌, ◌≡◌, refl, ap, ap₂, Bool, true, false, ◌⊎◌, inl, inr, ⊎_elim, eq-or-lt_of_le, arith, add-one, ltb, leb, ltb-true, ltb-false, leb-true, le-leb}
use Rattle.basis.specs.Words.{pick, both, within, all_of}

pub lt_or_le : (a b : ℕ) → (a < b) ⊎ (b ≤ a)
lt_or_le a b = go (ltb a b) refl
  where
    go : (t : Bool) → ltb a b ≡ t → (a < b) ⊎ (b ≤ a)
    go true e = inl (ltb-true a b e)
    go false e = inr (ltb-false a b e)

pub true_not_false : {A : Type 0} → ◌≡◌ {A = Bool} true false → A
true_not_false e = let z : ◌≡◌ {A = ℕ} 0 1 = cc in absurd (omega arith)

pub all_same : (n : ℕ) (f g : ℕ → Bool) → ((i : ℕ) → i < n → f i ≡ g i) → all_of n f ≡ all_of n g
unfolding all_of
all_same zero f g h = refl
all_same (suc n) f g h = ap₂ both (all_same n f g (λ i l. h i (omega arith))) (h n (omega arith))

pub all_one_more : (n : ℕ) (f : ℕ → Bool) → all_of (n + 1) f ≡ both (all_of n f) (f n)
unfolding all_of
all_one_more n f = rw add-one

-- a choice between equals
pub pick_same : {A : Type 0} (t : Bool) (a : A) → pick t a a ≡ a
pick_same true a = refl
pick_same false a = refl

pub both_left : (a b : Bool) → both a b ≡ true → a ≡ true
both_left true b e = refl
both_left false b e = e

pub both_right : (a b : Bool) → both a b ≡ true → b ≡ true
both_right true b e = e
both_right false b e = true_not_false (cc)

pub all_at : (n : ℕ) (f : ℕ → Bool) → all_of n f ≡ true → (i : ℕ) → i < n → f i ≡ true
unfolding all_of
all_at zero f e i l = absurd (omega arith)
all_at (suc n) f e i l =
    ⊎_elim (λ q. rw q (both_right (all_of n f) (f n) e)) (λ m. all_at n f (both_left (all_of n f) (f n) e) i m) (eq-or-lt_of_le {n = i} {m = n} (omega arith))

pub all_fails : (n : ℕ) (f : ℕ → Bool) (i : ℕ) → i < n → f i ≡ false → all_of n f ≡ false
unfolding all_of
all_fails zero f i l e = absurd (omega arith)
all_fails (suc n) f i l e =
    ⊎_elim (λ q. let g : f n ≡ false = rw q at e in both_none (all_of n f) (f n) g) (λ m. ap (λ (b : Bool). both b (f n)) (all_fails n f i m e)) (eq-or-lt_of_le {n = i} {m = n} (omega arith)) where
      both_none : (a b : Bool) → b ≡ false → both a b ≡ false
      both_none true b e = e
      both_none false b e = refl

pub both_true : (a b : Bool) → a ≡ true → b ≡ true → both a b ≡ true
both_true true b e f = f
both_true false b e f = e

-- a range, and its two ends
module _ (a b x : ℕ) where
  pub at_least : within a b x ≡ true → a ≤ x
  at_least e = leb-true a x (both_left (leb a x) (leb x b) e)

  pub at_most : within a b x ≡ true → x ≤ b
  at_most e = leb-true x b (both_right (leb a x) (leb x b) e)

  pub within_true : a ≤ x → x ≤ b → within a b x ≡ true
  within_true h l = both_true (leb a x) (leb x b) (le-leb a x h) (le-leb x b l)

-- what holds of each is held by all
pub all_true : (n : ℕ) (f : ℕ → Bool) → ((i : ℕ) → i < n → f i ≡ true) → all_of n f ≡ true
unfolding all_of
all_true zero f h = refl
all_true (suc n) f h = both_true (all_of n f) (f n) (all_true n f (λ i l. h i (omega arith))) (h n (omega arith))
