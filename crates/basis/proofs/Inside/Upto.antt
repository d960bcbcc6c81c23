-- Laws of `upto`: what a loop that stores once a turn has made, read at a place, and its length. Assumes nothing.
use Rattle.basis.specs.Prelude.{◌++◌, take, drop, take-suc, drop-cons, append_snoc, set_at, length-take-le, ℕ, zero, suc, ◌+◌, ◌≤◌, ◌<◌, ◌≡◌, refl, sym, ap, ◌∙◌, List, ⊎_elim, length, get_or, set, length-set, get_or-set_same, get_or-set_other, ext_get_or, add-one, arith, le_refl, eq-or-lt_of_le}
use Rattle.basis.specs.Upto.{upto}
use Rattle.basis.proofs.Inside.Words.{lt_or_le}

module _ {A : Type 0} where
  pub upto_none : (f : ℕ → A) (l : List A) → l ≡ upto 0 f l
  unfolding upto
  upto_none f l = refl

  pub length_upto : (n : ℕ) (f : ℕ → A) (l : List A) → length (upto n f l) ≡ length l
  unfolding upto
  length_upto zero f l = refl
  length_upto (suc n) f l = length-set (upto n f l) n (f n) ∙ length_upto n f l

  -- past n the list is as it was
  pub upto_past : (n : ℕ) (f : ℕ → A) (l : List A) (d : A) (k : ℕ) → n ≤ k → get_or (upto n f l) k d ≡ get_or l k d
  unfolding upto
  upto_past zero f l d k h = refl
  upto_past (suc n) f l d k h = get_or-set_other (upto n f l) n k (f n) d (λ e. omega arith) ∙ upto_past n f l d k (omega arith)

  -- a loop's turn: what is read at i is what stood there at first, and the store of what f says of i makes one more
  pub upto_read : (i : ℕ) (f : ℕ → A) (l l₀ : List A) (d : A) → l ≡ upto i f l₀ → get_or l i d ≡ get_or l₀ i d
  upto_read i f l l₀ d e = ap (λ (x : List A). get_or x i d) e ∙ upto_past i f l₀ d i (le_refl i)

  pub upto_set : (i : ℕ) (f : ℕ → A) (l l₀ : List A) (v : A) → l ≡ upto i f l₀ → v ≡ f i → set l i v ≡ upto (i + 1) f l₀
  unfolding upto
  upto_set i f l l₀ v e k = rw (e, k, add-one)

  -- below n the list has f's values
  pub upto_below : (n : ℕ) (f : ℕ → A) (l : List A) (d : A) (k : ℕ) → k < n → n ≤ length l → get_or (upto n f l) k d ≡ f k
  unfolding upto
  upto_below zero f l d k h r = absurd (omega arith)
  upto_below (suc n) f l d k h r =
      ⊎_elim (λ e. rw e (get_or-set_same (upto n f l) n (f n) d (rw length_upto (omega arith))))
      (λ m. get_or-set_other (upto n f l) n k (f n) d (λ e. omega arith) ∙ upto_below n f l d k m (omega arith)) (eq-or-lt_of_le {n = k} {m = n} (omega arith))

  -- two fillings are one where they agree below n
  pub upto_agree : (n : ℕ) (f g : ℕ → A) (l : List A) → ((k : ℕ) → k < n → f k ≡ g k) → upto n f l ≡ upto n g l
  unfolding upto
  upto_agree zero f g l h = refl
  upto_agree (suc n) f g l h = rw (upto_agree n f g l (λ k b. h k (omega arith)), h n (omega arith))

  -- a filling over a shorter one hides it
  pub upto_over : (n k : ℕ) (f g : ℕ → A) (l : List A) (d : A) → k ≤ n → n ≤ length l → upto n f (upto k g l) ≡ upto n f l
  upto_over n k f g l d h r =
      ext_get_or d (upto n f (upto k g l)) (upto n f l) (length_upto n f (upto k g l) ∙ length_upto k g l ∙ sym (length_upto n f l)) (λ i b. ⊎_elim
      (λ m. upto_below n f (upto k g l) d i m (rw length_upto r) ∙ sym (upto_below n f l d i m r))
      (λ m. upto_past n f (upto k g l) d i m ∙ upto_past k g l d i (omega arith) ∙ sym (upto_past n f l d i m)) (lt_or_le i n))

  -- a loop over the first n places: the list is as long as it was, place i is inside, and the last turn is the end
  module _ (n i : ℕ) (f : ℕ → A) (l l₀ : List A) (so_far : l ≡ upto i f l₀) where
    pub upto_long : length l ≡ length l₀
    upto_long = ap length so_far ∙ length_upto i f l₀

    pub upto_room : i < n → n ≤ length l₀ → i < length l
    upto_room h r = omega (arith, upto_long)

    pub upto_whole : i ≤ n → n ≤ i → l ≡ upto n f l₀
    upto_whole h g = let e : i ≡ n = omega arith in rw e at so_far

-- a front that is copied is one that is filled
pub upto_front : (n : ℕ) (own list : List ℕ) → n ≤ length own → n ≤ length list → take n own ++ drop n list ≡ upto n (λ i. get_or own i 0) list
unfolding upto
upto_front zero own list h r = refl
upto_front (suc n) own list h r =
    let k : length (take n own) ≡ n = length-take-le n own (omega arith) in
    rw (take-suc own n 0 h) (append_snoc (take n own) (get_or own n 0) (drop (suc n) list)) ∙ sym (set_at (take n own) (get_or list n 0) (drop (suc n) list) (get_or own n 0) n k)
    ∙ ap (λ (z : List ℕ). set (take n own ++ z) n (get_or own n 0)) (sym (drop-cons list n 0 r)) ∙ ap (λ (z : List ℕ). set z n (get_or own n 0)) (upto_front n own list (omega arith) (omega arith))
