-- Lists that a loop fills.
use Rattle.std.specs.Prelude.{◌/◌, ◌%◌}
use Rattle.basis.specs.Prelude.{ℕ, zero, suc, List, set, eqb}
use Rattle.basis.specs.Words.{pick}

-- The list l with its first n places made f 0, f 1, ..; the places past them are as they were.
unfoldable pub upto : {A : Type 0} → ℕ → (ℕ → A) → List A → List A
upto zero f l = l
upto (suc n) f l = set (upto n f l) n (f n)

-- The number at place i of a list of pairs, whose pair k is f k and g k.
unfoldable pub pair_cell : (ℕ → ℕ) → (ℕ → ℕ) → ℕ → ℕ
pair_cell f g i = pick (eqb (i % 2) 0) (f (i / 2)) (g (i / 2))
