-- Laws of the first refusal: what a loop that leaves at the first one shows. Assumes nothing.
use Rattle.basis.specs.Prelude.{ℕ, zero, suc, ◌+◌, ◌<◌, ◌≡◌, refl, ap₂, ⊎_elim, eq-or-lt_of_le, add-one, arith}
use Rattle.basis.specs.Refusals.{Outcome, accepted, refused, or_else, first_of}

pub first_more : (i : ℕ) (f : ℕ → Outcome) → first_of i f ≡ accepted → f i ≡ accepted → first_of (i + 1) f ≡ accepted
unfolding first_of
first_more i f e g = rw (add-one, e, g)

pub first_found : (n i : ℕ) (f : ℕ → Outcome) (a b : ℕ) → i < n → first_of i f ≡ accepted → f i ≡ refused a b → first_of n f ≡ refused a b
unfolding first_of
first_found zero i f a b h e g = absurd (omega arith)
first_found (suc m) i f a b h e g =
    ⊎_elim (λ q. let e' : first_of m f ≡ accepted = rw q at e in let g' : f m ≡ refused a b = rw q at g in rw (e', g')) (λ l. rw (first_found m i f a b l e g))
    (eq-or-lt_of_le {n = i} {m = m} (omega arith))

pub both_accepted : (a b : Outcome) → or_else a b ≡ accepted → (a ≡ accepted) × (b ≡ accepted)
both_accepted accepted b e = (refl, e)
both_accepted (refused n p) b e = let z : ◌≡◌ {A = ℕ} 0 1 = cc in absurd (omega arith)

-- where nothing is refused, none of them is
pub first_at : (n : ℕ) (f : ℕ → Outcome) → first_of n f ≡ accepted → (i : ℕ) → i < n → f i ≡ accepted
unfolding first_of
first_at zero f e i h = absurd (omega arith)
first_at (suc n) f e i h =
    let (below, here) = both_accepted (first_of n f) (f n) e in
    ⊎_elim (λ q. rw q here) (λ l. first_at n f below i l) (eq-or-lt_of_le {n = i} {m = n} (omega arith))

-- and where none of them is refused, nothing is
pub all_accepted_lem : (n : ℕ) (f : ℕ → Outcome) → ((i : ℕ) → i < n → f i ≡ accepted) → first_of n f ≡ accepted
unfolding first_of
all_accepted_lem zero f h = refl
all_accepted_lem (suc n) f h = rw (all_accepted_lem n f (λ i b. h i (omega arith)), h n (omega arith))

pub first_same : (n : ℕ) (f g : ℕ → Outcome) → ((i : ℕ) → i < n → f i ≡ g i) → first_of n f ≡ first_of n g
unfolding first_of
first_same zero f g h = refl
first_same (suc n) f g h = ap₂ or_else (first_same n f g (λ i l. h i (omega arith))) (h n (omega arith))
