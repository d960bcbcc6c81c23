-- The words that the definitions are made of: a choice, two tests together, a range, all of several, a sum, every element of a list.
use Rattle.std.specs.Prelude.{◌+◌, ◌∷◌}
use Rattle.basis.specs.Prelude.{ℕ, zero, suc, Bool, true, false, List, [], leb}

-- The first where the test holds, the second where it does not.
abbrev pub pick : {A : Type 0} → Bool → A → A → A
pick true a b = a
pick false a b = b

-- Both tests hold.
abbrev pub both : Bool → Bool → Bool
both true b = b
both false b = false

-- x is from a to b.
abbrev pub within : ℕ → ℕ → ℕ → Bool
within a b x = both (leb a x) (leb x b)

-- The test holds of each number below n.
unfoldable pub all_of : ℕ → (ℕ → Bool) → Bool
all_of zero f = true
all_of (suc n) f = both (all_of n f) (f n)

-- f 0 + .. + f (n - 1).
unfoldable pub sum : ℕ → (ℕ → ℕ) → ℕ
sum zero f = 0
sum (suc n) f = sum n f + f n

-- Every element of a list is such a one.
abbrev pub Each : {A : Type 0} → (A → Type 0) → List A → Type 0
Each P [] = Unit {0}
Each P (a ∷ l) = P a × Each P l
