-- Stores one after another, and past the end. Assumes nothing.
use Rattle.basis.specs.Prelude.{ℕ, suc, ◌+◌, ◌-◌, ◌≤◌, ◌<◌, ◌≡◌, refl, sym, ap, ap₂, ◌∙◌, List, [], ◌∷◌, ◌++◌, arith, length, length-set, get_or, add-zero, add-one, set, set_out, take, take_at, drop, drop-cons, drop_of_length-le, sets, sets-eq}

pub sets_after : (l : List ℕ) (i : ℕ) (xs ys : List ℕ) → sets (sets l i xs) (i + length xs) ys ≡ sets l i (xs ++ ys)
sets_after l i [] ys = ap (λ (k : ℕ). sets l k ys) (add-zero i)
sets_after l i (x ∷ xs) ys =
    let e : i + suc (length xs) ≡ suc i + length xs = omega arith in
    ap (λ (k : ℕ). sets (sets (set l i x) (suc i) xs) k ys) e ∙ sets_after (set l i x) (suc i) xs ys

-- nothing is stored past the end
pub sets_out : (l : List ℕ) (i : ℕ) (xs : List ℕ) → length l ≤ i → sets l i xs ≡ l
sets_out l i [] h = refl
sets_out l i (x ∷ xs) h = sets_out (set l i x) (suc i) xs (omega (arith, length-set l i x)) ∙ set_out l i x h

-- what was stored at the front, where there is room
pub sets_front : (l xs : List ℕ) → length xs ≤ length l → take (length xs) (sets l 0 xs) ≡ xs
sets_front l xs r =
    let z : 0 + length xs ≤ length l = omega arith in
    ap (take (length xs)) (sets-eq xs l 0 z) ∙ take_at xs (drop (0 + length xs) l) (length xs) refl

-- the loop of `put_bytes`, which has stored i bytes and has the others to store
module _ (l₀ l : List ℕ) (at i : ℕ) (xs : List ℕ) (so_far : sets l₀ at xs ≡ sets l (at + i) (drop i xs)) where
  pub put_more : i < length xs → sets l₀ at xs ≡ sets (set l (at + i) (get_or xs i 0)) (at + (i + 1)) (drop (i + 1) xs)
  put_more h =
      let next : suc (at + i) ≡ at + (i + 1) = omega arith in
      so_far ∙ ap (sets l (at + i)) (drop-cons xs i 0 h)
      ∙ ap₂ (λ (k : ℕ) (j : ℕ). sets (set l (at + i) (get_or xs i 0)) k (drop j xs)) next (sym (add-one i))

  pub put_full : (room : ℕ) → room ≡ length l₀ - at → length l ≡ length l₀ → room ≤ i → l ≡ sets l₀ at xs
  put_full room e same h = sym (so_far ∙ sets_out l (at + i) (drop i xs) (omega arith))

  pub put_whole : length xs ≤ i → l ≡ sets l₀ at xs
  put_whole h = sym (so_far ∙ ap (sets l (at + i)) (drop_of_length-le xs h))

pub put_none : (l : List ℕ) (at : ℕ) (xs : List ℕ) → sets l at xs ≡ sets l (at + 0) (drop 0 xs)
put_none l at xs = ap (λ (k : ℕ). sets l k xs) (sym (add-zero at))
