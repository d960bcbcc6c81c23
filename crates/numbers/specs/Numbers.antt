-- A number: groups of seven bits, the lowest first, the top bit set where another follows, in the shortest form only.
use Rattle.std.specs.Prelude.{Result, Ok, Err, ◌+◌, ◌-◌, ◌*◌, ◌/◌, ◌%◌, ◌∷◌}
use Rattle.basis.specs.Prelude.{ℕ, zero, suc, List, [], length, ltb, leb, eqb}
use Rattle.basis.specs.Limits.{most_groups}
use Rattle.basis.specs.Words.{pick}
use Rattle.basis.specs.Refusals.{told}
use Rattle.basis.specs.Readers.{Step, ok, refuse, Reader, ◌>>=◌, give, refuse_at, here, byte}

-- At most g groups more of a number whose first byte is at first, the last of them at least least: 2 where the bytes end, 3 where no group is left or the
-- last is too small.
unfoldable pub groups : ℕ → ℕ → ℕ → Reader ℕ
groups zero first least = refuse_at 3 first
groups (suc g) first least = do
  b ← byte
  pick (ltb b 128)
      (pick (ltb b least) (refuse_at 3 first) (give b))
      (do
        v ← groups g first 1
        give (b - 128 + 128 * v))

-- The number at a place, of at most g groups: the last of several is not zero, and a single one may be.
abbrev pub number_by : ℕ → Reader ℕ
number_by g s at = groups g at 0 s at

-- A number from 1 to most, of at most g groups; refused at its first byte by one number where it is zero, and by another where it is over.
unfoldable pub up_to_by : ℕ → ℕ → ℕ → ℕ → Reader ℕ
up_to_by g most under over = do
  first ← here
  v ← number_by g
  pick (eqb v 0) (refuse_at under first) (pick (leb v most) (give v) (refuse_at over first))

-- Both by the limit of the project.
abbrev pub number : Reader ℕ
number = number_by most_groups

abbrev pub up_to : ℕ → ℕ → ℕ → Reader ℕ
up_to = up_to_by most_groups

-- The step that each answer of the code stands for, whose errors are of another type: told says which number and place an error is.
abbrev pub step_by : {E : Type 0} → (E → ℕ × ℕ) → Result (ℕ × ℕ) E → Step ℕ
step_by told (Ok (value, next)) = ok value next
step_by told (Err e) = refuse (told e).0 (told e).1

-- The same where an error is its number and place.
abbrev pub step_as_told : Result (ℕ × ℕ) (ℕ × ℕ) → Step ℕ
step_as_told = step_by (λ (e : ℕ × ℕ). e)

-- A number from 1 to most; refused by one number and place where it is zero, and by others where it is over.
abbrev pub ranged : ℕ → ℕ × ℕ → ℕ × ℕ → Reader ℕ
ranged most under over = do
  v ← number
  pick (eqb v 0) (refuse_at under.0 under.1) (pick (leb v most) (give v) (refuse_at over.0 over.1))

-- The encoding of a value, in at most g groups.
unfoldable pub spelt : ℕ → ℕ → List ℕ
spelt zero v = []
spelt (suc g) v = pick (ltb v 128) (v ∷ []) ((128 + v % 128) ∷ spelt g (v / 128))

-- The encoding of a value.
abbrev pub spell : ℕ → List ℕ
spell v = spelt most_groups v

-- How many bytes a value takes.
unfoldable pub width : ℕ → ℕ
width v = length (spell v)
