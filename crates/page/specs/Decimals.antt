-- Numbers in decimal, byte for byte.
use Rattle.std.specs.Prelude.{◌+◌, ◌-◌, ◌*◌, ◌/◌, ◌%◌, ◌∷◌, ◌++◌}
use Rattle.basis.specs.Prelude.{ℕ, zero, suc, List, [], ltb}
use Rattle.basis.specs.Words.{pick}

-- The last k decimal digits of n, the highest first, with no zero in front.
unfoldable pub digits : ℕ → ℕ → List ℕ
digits zero n = []
digits (suc k) n = pick (ltb n 10) ((0x30 + n) ∷ []) (digits k (n / 10) ++ ((0x30 + n % 10) ∷ []))

-- No number of the code has more digits.
abbrev pub most_digits : ℕ
most_digits = 20

-- A number in decimal.
unfoldable pub decimal : ℕ → List ℕ
decimal n = digits most_digits n

-- The number that decimal digits stand for, after digits that stand for n.
unfoldable pub value_after : ℕ → List ℕ → ℕ
value_after n [] = n
value_after n (b ∷ bs) = value_after (n * 10 + (b - 0x30)) bs

-- The number that decimal digits stand for.
abbrev pub value : List ℕ → ℕ
value bs = value_after 0 bs
