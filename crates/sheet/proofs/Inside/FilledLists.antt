-- A list whose every place i is made f i: the end of the loop that fills it, what is read of it, and a list of zeros. Assumes nothing.
use Rattle.basis.specs.Prelude.{ℕ, ◌≤◌, ◌<◌, ◌≡◌, sym, ap, ◌∙◌, List, ⊎_elim, length, replicate, length-replicate, get_or-eq_default, ext_get_or, arith, le_refl}
use Rattle.sheet.proofs.Names.{upto, get_d_all, upto_below, upto_past, length_upto, lt_or_le, number_at, filled}

-- every place is filled
pub fill_done : (f : ℕ → ℕ) (l₀ l : List ℕ) (i : ℕ) → l ≡ upto i f l₀ → i ≤ length l₀ → length l ≤ i → l ≡ filled f l₀
unfolding filled
fill_done f l₀ l i so_far a b = let e : i ≡ length l₀ = omega (arith, ap length so_far ∙ length_upto i f l₀) in rw e at so_far

-- what is read of a filled list: f of the place, where f is zero past the list's end
pub filled_read : (f : ℕ → ℕ) (l : List ℕ) (i : ℕ) → (length l ≤ i → f i ≡ 0) → number_at (filled f l) i ≡ f i
unfolding filled
filled_read f l i z =
    ⊎_elim (λ h. upto_below (length l) f l 0 i h (le_refl (length l))) (λ h. upto_past (length l) f l 0 i h ∙ get_or-eq_default l 0 {n = i} h ∙ sym (z h))
    (lt_or_le i (length l))

-- a list that holds f of every place is the filled one
pub filled_is : (f : ℕ → ℕ) (l m : List ℕ) → length m ≡ length l → ((i : ℕ) → i < length l → number_at m i ≡ f i) → m ≡ filled f l
unfolding filled
filled_is f l m e same =
    ext_get_or 0 m (filled f l) (e ∙ sym (length_upto (length l) f l))
    (λ i b. let there : i < length l = omega arith in same i there ∙ sym (upto_below (length l) f l 0 i there (le_refl (length l))))

-- a filled list is as long as it was
pub length_filled : (f : ℕ → ℕ) (l : List ℕ) → length (filled f l) ≡ length l
unfolding filled
length_filled f l = length_upto (length l) f l

-- a list of zeros
abbrev pub zeros : ℕ → List ℕ
zeros n = replicate n 0

pub zeros_long : (n : ℕ) → length (zeros n) ≡ n
zeros_long n = length-replicate n 0

-- it is filled where its first k places are, and f is zero past them
pub zeros_filled : (f : ℕ → ℕ) (n k : ℕ) → ((i : ℕ) → k ≤ i → f i ≡ 0) → k ≤ n → upto k f (zeros n) ≡ filled f (zeros n)
zeros_filled f n k z h =
    filled_is f (zeros n) (upto k f (zeros n)) (length_upto k f (zeros n)) (λ i b. ⊎_elim
    (λ a. upto_below k f (zeros n) 0 i a (omega (arith, zeros_long n)))
    (λ a. upto_past k f (zeros n) 0 i a ∙ get_d_all n i 0 ∙ sym (z i a)) (lt_or_le i k))
