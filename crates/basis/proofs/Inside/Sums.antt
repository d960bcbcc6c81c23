-- Laws of sums: by their parts, where the parts agree, and with more parts. Assumes nothing.
use Rattle.basis.specs.Prelude.{ℕ, zero, suc, ◌+◌, ◌*◌, ◌≤◌, ◌<◌, ◌≡◌, refl, ⊎_elim, eq-or-lt_of_le, arith, add-one}
use Rattle.basis.specs.Words.{sum}

pub sum_le : (n : ℕ) (f g : ℕ → ℕ) → ((i : ℕ) → i < n → f i ≤ g i) → sum n f ≤ sum n g
unfolding sum
sum_le zero f g h = omega arith
sum_le (suc n) f g h = omega (arith, sum_le n f g (λ i l. h i (omega arith)), h n (omega arith))

pub sum_most : (n m : ℕ) (f : ℕ → ℕ) → ((i : ℕ) → f i ≤ m) → sum n f ≤ n * m
unfolding sum
sum_most zero m f h = omega arith
sum_most (suc n) m f h = omega (arith, sum_most n m f h, h n)

pub sum_same : (n : ℕ) (f g : ℕ → ℕ) → ((i : ℕ) → i < n → f i ≡ g i) → sum n f ≡ sum n g
unfolding sum
sum_same zero f g h = refl
sum_same (suc n) f g h = omega (arith, sum_same n f g (λ i l. h i (omega arith)), h n (omega arith))

pub sum_one_more : (n : ℕ) (f : ℕ → ℕ) → sum (n + 1) f ≡ sum n f + f n
unfolding sum
sum_one_more n f = rw add-one

-- a sum over more parts is never less
pub sum_grows : (n m : ℕ) (f : ℕ → ℕ) → n ≤ m → sum n f ≤ sum m f
unfolding sum
sum_grows n zero f l = let e : n ≡ 0 = omega arith in rw e (omega arith)
sum_grows n (suc m) f l = ⊎_elim (λ e. rw e (omega arith)) (λ s. omega (arith, sum_grows n m f (omega arith))) (eq-or-lt_of_le l)

-- where each part is in proportion, the sum is
pub sum_weighed : (n a b : ℕ) (f g : ℕ → ℕ) → ((i : ℕ) → i < n → f i * a ≤ g i * b) → sum n f * a ≤ sum n g * b
unfolding sum
sum_weighed zero a b f g h = omega arith
sum_weighed (suc n) a b f g h = omega (arith, sum_weighed n a b f g (λ i l. h i (omega arith)), h n (omega arith))
