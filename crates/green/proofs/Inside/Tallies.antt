-- Sums over the rows above, lists of slots, and how often each row runs in one. Assumes nothing.
use Rattle.basis.specs.Prelude.{◌≡◌, refl, List, [], ◌∷◌, ℕ, zero, suc, ◌+◌, ◌*◌, ◌≤◌, min, arith, length}
use Rattle.green.proofs.Names.{sum, Each, tally}

-- the sum of (a + b) c is that of a c and that of b c
pub sum_add_mul : (k : ℕ) (a b c : ℕ → ℕ) → sum k (λ i. (a i + b i) * c i) ≡ sum k (λ i. a i * c i) + sum k (λ i. b i * c i)
unfolding sum
sum_add_mul zero a b c = refl
sum_add_mul (suc k) a b c = omega (arith, sum_add_mul k a b c)

-- ---- a cap on each addend

min_mul : (q a r : ℕ) → min q (r * a) ≤ r * min a q
min_mul q a zero = omega arith
min_mul q a (suc r) = omega (arith, min_mul q a r)

-- a sum that reaches q reaches it still when the factors are capped at q
pub sum_cap : (k q : ℕ) (a r : ℕ → ℕ) → min q (sum k (λ i. r i * a i)) ≤ sum k (λ i. r i * min (a i) q)
unfolding sum
sum_cap zero q a r = omega arith
sum_cap (suc k) q a r = omega (arith, sum_cap k q a r, min_mul q (a k) (r k))

pub each_map : {P Q : (ℕ → ℕ) → Type 0} → ((v : ℕ → ℕ) → P v → Q v) → (vs : List (ℕ → ℕ)) → Each P vs → Each Q vs
each_map f [] none = tt
each_map f (v ∷ vs) (h, r) = (f v h, each_map f vs r)

-- a row that runs at most once in each slot
pub tally_le : (i : ℕ) (vs : List (ℕ → ℕ)) → Each (λ v. v i ≤ 1) vs → tally vs i ≤ length vs
unfolding tally
tally_le i [] none = omega arith
tally_le i (v ∷ vs) (h, r) = omega (arith, tally_le i vs r)

-- the exchange of sums: where each slot carries at least q, all carry at least q for each
pub carried : (k q : ℕ) (g : ℕ → ℕ) (vs : List (ℕ → ℕ)) → Each (λ v. q ≤ sum k (λ i. v i * g i)) vs → length vs * q ≤ sum k (λ i. tally vs i * g i)
unfolding tally
carried k q g [] none = omega arith
carried k q g (v ∷ vs) (h, r) = omega (arith, carried k q g vs r, sum_add_mul k v (tally vs) g)
