-- Wrong rules, each the rule of document 01 but for one thing: every promise shuts them out on a named input.
use Rattle.std.specs.Prelude.{◌∷◌, ◌+◌}
use Rattle.basis.specs.Prelude.{Bool, true, false, List, [], ℕ, length, set, leb, eqb}
use Rattle.basis.specs.Words.{pick, both}
use Rattle.basis.specs.Refusals.{Outcome, refused}
use Rattle.basis.specs.Lent.{stored_at}

-- Every call is said to be accepted.
unfoldable pub ever_accepted : Outcome → Bool
ever_accepted o = true

-- Every call is said to be refused.
unfoldable pub ever_refused : Outcome → Bool
ever_refused o = false

-- Refused by 3 at 0.
abbrev pub three_at_none : Outcome
three_at_none = refused 3 0

-- A mark whose every byte is compared with its first.
unfoldable pub by_first_byte : ℕ → List ℕ → List ℕ → Bool
by_first_byte first [] s = true
by_first_byte first (b ∷ bs) [] = false
by_first_byte first (b ∷ bs) (x ∷ s) = both (eqb x first) (by_first_byte first bs s)

-- A mark that the bytes may cut off.
unfoldable pub cut_mark : List ℕ → List ℕ → Bool
cut_mark [] s = true
cut_mark (b ∷ bs) [] = true
cut_mark (b ∷ bs) (x ∷ s) = both (eqb x b) (cut_mark bs s)

-- A mark of two bytes, 47 53.
abbrev pub two_byte_mark : List ℕ
two_byte_mark = 0x47 ∷ 0x53 ∷ []

-- Its first byte twice.
abbrev pub first_twice : List ℕ
first_twice = 0x47 ∷ 0x47 ∷ []

-- Its first byte alone.
abbrev pub first_alone : List ℕ
first_alone = 0x47 ∷ []

-- The byte past the last is cleared too.
unfoldable pub next_cleared : List ℕ → ℕ → List ℕ → List ℕ
next_cleared l at xs = set (stored_at l at xs) (at + length xs) 0

-- Nothing is written where not all of it has room.
unfoldable pub all_or_nothing : List ℕ → ℕ → List ℕ → List ℕ
all_or_nothing l at xs = pick (leb (at + length xs) (length l)) (stored_at l at xs) l

-- The bytes are written at the front, whatever the place.
unfoldable pub at_the_front : List ℕ → ℕ → List ℕ → List ℕ
at_the_front l at xs = stored_at l 0 xs

-- A buffer of three bytes, each 9.
abbrev pub three_nines : List ℕ
three_nines = 9 ∷ 9 ∷ 9 ∷ []
