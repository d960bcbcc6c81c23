-- Wrong rules of a number, each the rule of document 01 but for one thing, and the bytes that tell them.
use Rattle.std.specs.Prelude.{◌+◌, ◌-◌, ◌*◌, ◌/◌, ◌%◌, ◌∷◌}
use Rattle.basis.specs.Prelude.{ℕ, zero, suc, List, [], length, set, sets, ltb, leb, eqb}
use Rattle.basis.specs.Limits.{most_groups}
use Rattle.basis.specs.Words.{pick}
use Rattle.basis.specs.Readers.{Step, ok, refuse, Reader, ◌>>=◌, give, refuse_at, here, byte}
use Rattle.numbers.specs.Numbers.{groups, number, spell, width}

-- The groups weighed in the other order, those before weighing so much.
unfoldable pub high_groups : ℕ → ℕ → ℕ → ℕ → Reader ℕ
high_groups zero first least above = refuse_at 3 first
high_groups (suc g) first least above = do
  b ← byte
  pick (ltb b 128)
      (pick (ltb b least) (refuse_at 3 first) (give (above * 128 + b)))
      (high_groups g first 1 (above * 128 + (b - 128)))

-- The highest group first.
unfoldable pub highest_first : Reader ℕ
highest_first s at = high_groups most_groups at 0 0 s at

-- So many groups, the last of which may always be zero.
unfoldable pub loose_groups : ℕ → ℕ → Reader ℕ
loose_groups zero first = refuse_at 3 first
loose_groups (suc g) first = do
  b ← byte
  pick (ltb b 128)
      (give b)
      (do
        v ← loose_groups g first
        give (b - 128 + 128 * v))

-- A form that is not the shortest is accepted.
unfoldable pub any_form : Reader ℕ
any_form s at = loose_groups most_groups at s at

-- One group more is accepted.
unfoldable pub group_more : Reader ℕ
group_more s at = groups (suc most_groups) at 0 s at

-- A refusal by 3 told as another one.
unfoldable pub three_as : (ℕ → Step ℕ) → Step ℕ → Step ℕ
three_as other (ok value next) = ok value next
three_as other (refuse k place) = pick (eqb k 3) (other place) (refuse k place)

-- A number that is too long is said to be cut off.
unfoldable pub long_is_cut : Reader ℕ
long_is_cut s at = three_as (λ place. refuse 2 (length s)) (number s at)

-- A number that is too long is refused at the place after its first byte.
unfoldable pub place_after : Reader ℕ
place_after s at = three_as (λ place. refuse 3 (place + 1)) (number s at)

-- Zero is read as it stands, a blank budget among the rest.
unfoldable pub blank_is_zero : ℕ → ℕ → ℕ → Reader ℕ
blank_is_zero most under over = do
  first ← here
  v ← number
  pick (leb v most) (give v) (refuse_at over first)

-- The largest value allowed is refused.
unfoldable pub most_is_over : ℕ → ℕ → ℕ → Reader ℕ
most_is_over most under over = do
  first ← here
  v ← number
  pick (eqb v 0) (refuse_at under first) (pick (ltb v most) (give v) (refuse_at over first))

-- Zero is refused as what is over.
unfoldable pub zero_is_over : ℕ → ℕ → ℕ → Reader ℕ
zero_is_over most under over = do
  first ← here
  v ← number
  pick (eqb v 0) (refuse_at over first) (pick (leb v most) (give v) (refuse_at over first))

-- Every value takes one byte.
unfoldable pub always_one : ℕ → ℕ
always_one v = 1

-- A value of one group is said to take two.
unfoldable pub two_for_one : ℕ → ℕ
two_for_one v = pick (ltb v 128) 2 (width v)

-- At most g groups, each put before the ones that were made so far; the first made has the top bit that is given, and the others have it set.
unfoldable pub spelt_before : ℕ → ℕ → ℕ → List ℕ → List ℕ
spelt_before zero top v after = after
spelt_before (suc g) top v after = pick (ltb v 128) ((top + v) ∷ after) (spelt_before g 128 (v / 128) ((top + v % 128) ∷ after))

-- The groups are written the highest first.
unfoldable pub highest_written : List ℕ → ℕ → ℕ → List ℕ
highest_written out at v = sets out at (spelt_before most_groups 0 v [])

-- At most g groups, the top bit left off each that another follows.
unfoldable pub spelt_bare : ℕ → ℕ → List ℕ
spelt_bare zero v = []
spelt_bare (suc g) v = pick (ltb v 128) (v ∷ []) ((v % 128) ∷ spelt_bare g (v / 128))

-- No top bit is written.
unfoldable pub top_bits_off : List ℕ → ℕ → ℕ → List ℕ
top_bits_off out at v = sets out at (spelt_bare most_groups v)

-- The byte past the number is cleared.
unfoldable pub next_cleared : List ℕ → ℕ → ℕ → List ℕ
next_cleared out at v = set (sets out at (spell v)) (at + width v) 0

-- 80 01, which is 128.
abbrev pub two_groups : List ℕ
two_groups = 0x80 ∷ 0x01 ∷ []

-- 80 00, which is not the shortest form.
abbrev pub zero_last : List ℕ
zero_last = 0x80 ∷ 0x00 ∷ []

-- 80 80 80 01, which is a group too long.
abbrev pub four_groups : List ℕ
four_groups = 0x80 ∷ 0x80 ∷ 0x80 ∷ 0x01 ∷ []

-- 00, a blank.
abbrev pub blank : List ℕ
blank = 0x00 ∷ []

-- A buffer of three bytes, each 09.
abbrev pub nines : List ℕ
nines = 0x09 ∷ 0x09 ∷ 0x09 ∷ []

-- 05.
abbrev pub five : List ℕ
five = 0x05 ∷ []
