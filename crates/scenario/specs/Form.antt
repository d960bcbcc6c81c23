-- The form of a scenario file, read from left to right: the first fault decides.
use Rattle.std.specs.Prelude.{◌+◌, ◌∷◌, ◌++◌}
use Rattle.basis.specs.Prelude.{ℕ, zero, suc, List, [], length, set, replicate, ltb}
use Rattle.basis.specs.Words.{pick}
use Rattle.basis.specs.Readers.{ok, Reader, ◌>>=◌, ◌>>◌, give, refuse_at, here, marked}
use Rattle.numbers.specs.Numbers.{number, up_to}
use Rattle.sheet.specs.Legal.{row_at}
use Rattle.sheet.specs.declared.row.Sheet.{Sheet}

-- What a scenario holds: how many slots, and the entries of all of them, one for each row a slot.
pub record Held : Type 0 where
  pub slots : ℕ
  pub entries : List ℕ

-- No slot.
abbrev pub no_slots : Held
no_slots = record { slots = 0; entries = [] }

-- A slot before the others.
abbrev pub slot_before : List ℕ → Held → Held
slot_before l x = record { slots = x.slots + 1; entries = l ++ x.entries }

-- The four fixed bytes of the mark.
abbrev pub mark_bytes : List ℕ
mark_bytes = 0x47 ∷ 0x53 ∷ 0x43 ∷ 0x01 ∷ []

-- The budget of row i.
abbrev pub budget_at : Sheet → ℕ → ℕ
budget_at h i = (row_at h i).budget

-- The entries of a slot of n rows in which nothing is released.
abbrev pub no_releases : ℕ → List ℕ
no_releases n = replicate n 0

-- A row number, least or more, of a sheet with n rows: 14 where there is no such row, then 20 where it is not above the one before.
unfoldable pub row : ℕ → ℕ → Reader ℕ
row n least = do
  place ← here
  r ← number
  pick (ltb r n) (pick (ltb r least) (refuse_at 20 place) (give r)) (refuse_at 14 place)

-- k releases more, of row least and below, into the entries l: a row, and a slot count from one to its budget.
unfoldable pub releases : Sheet → ℕ → ℕ → List ℕ → Reader (List ℕ)
releases h zero least l = give l
releases h (suc k) least l = do
  r ← row h.count least
  c ← up_to (budget_at h r) 12 12
  releases h k (r + 1) (set l r c)

-- A slot, into entries that are all zero: the number of releases, and each of them.
unfoldable pub slot : Sheet → List ℕ → Reader (List ℕ)
slot h l = do
  k ← number
  releases h k 0 l

-- Nothing more where no byte is left.
abbrev pub until_end : {A : Type 0} → A → Reader A → Reader A
until_end a r s at = pick (ltb at (length s)) (r s at) (ok a at)

-- Slots up to the end of the bytes, f at most; each takes a byte or more, so there are no more than bytes.
unfoldable pub slots : Sheet → ℕ → Reader Held
slots h zero = give no_slots
slots h (suc f) =
    until_end no_slots
    (do
      l ← slot h (no_releases h.count)
      x ← slots h f
      give (slot_before l x))

-- A whole scenario: the mark, and slots up to the end.
unfoldable pub scenario : Sheet → Reader Held
scenario h s at = (do
  marked mark_bytes
  slots h (length s)) s at
