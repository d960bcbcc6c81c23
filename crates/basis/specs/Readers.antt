-- Readers: what reading bytes at a place gives, and how one reader follows another. The form of a file is written with `do` over them.
use Rattle.std.specs.Prelude.{Result, Ok, Err, ◌+◌, ◌<◌, ◌∷◌}
use Rattle.basis.specs.Prelude.{ℕ, List, [], Bool, true, false, length, get_or, ltb, leb, eqb}
use Rattle.basis.specs.Words.{pick, both}
use Rattle.basis.specs.Refusals.{told}
use Rattle.basis.specs.declared.refusal.Refusal.{Refusal}

-- Each element is a byte.
abbrev pub Bytes : List ℕ → Type 0
Bytes s = (i : ℕ) → get_or s i 0 < 256

-- A value and the place after it, or a refusal: its number and its place.
pub data Step (A : Type 0) : Type 0 where
  ok : A → ℕ → Step A
  refuse : ℕ → ℕ → Step A

-- The step that each answer of the code stands for: a value and the place after it, or an error's number and place.
abbrev pub step : {A : Type 0} → Result (A × ℕ) Refusal → Step A
step (Ok (a, n)) = ok a n
step (Err r) = refuse (told r).0 (told r).1

-- The same where nothing is handed over but the place after some bytes.
abbrev pub passed_step : Result ℕ Refusal → Step (Unit {0})
passed_step (Ok n) = ok tt n
passed_step (Err r) = refuse (told r).0 (told r).1

-- From the bytes and the place to read at.
abbrev pub Reader : Type 0 → Type 0
Reader A = List ℕ → ℕ → Step A

-- What follows a step is done with its value, at the place after it; a refusal is the answer.
abbrev pub after : {A B : Type 0} → Step A → (A → ℕ → Step B) → Step B
after (ok a n) f = f a n
after (refuse k p) f = refuse k p

infixl 20 ◌>>=◌ ◌>>◌
-- One reader after another, left to right: the first fault decides.
abbrev pub ◌>>=◌ : {A B : Type 0} → Reader A → (A → Reader B) → Reader B
◌>>=◌ r f s at = after (r s at) (λ a n. f a s n)

abbrev pub ◌>>◌ : {A B : Type 0} → Reader A → Reader B → Reader B
◌>>◌ r f s at = after (r s at) (λ a n. f s n)

-- Nothing is read.
abbrev pub give : {A : Type 0} → A → Reader A
give a s at = ok a at

-- Refused, at a place that is already known.
abbrev pub refuse_at : {A : Type 0} → ℕ → ℕ → Reader A
refuse_at number place s at = refuse number place

-- The place itself.
abbrev pub here : Reader ℕ
here s at = ok at at

-- One byte; 2 at the length where the bytes end before it.
abbrev pub byte : Reader ℕ
byte s at = pick (ltb at (length s)) (ok (get_or s at 0) (at + 1)) (refuse 2 (length s))

-- There are k bytes more; 2 at the length where there are not.
abbrev pub enough : ℕ → Reader (Unit {0})
enough k s at = pick (leb (at + k) (length s)) (ok tt at) (refuse 2 (length s))

-- No byte is left; 9 at the first that is.
abbrev pub end : Reader (Unit {0})
end s at = pick (ltb at (length s)) (refuse 9 at) (ok tt at)

-- The bytes begin with these fixed ones.
unfoldable pub begins : List ℕ → List ℕ → Bool
begins [] s = true
begins (b ∷ bs) [] = false
begins (b ∷ bs) (x ∷ s) = both (eqb x b) (begins bs s)

-- The mark that a file begins with; 1 at 0 where there are fewer bytes or it differs.
abbrev pub marked : List ℕ → Reader (Unit {0})
marked bs s at = pick (begins bs s) (ok tt (length bs)) (refuse 1 0)

-- The step with what f makes of its value.
unfoldable pub map_step : {A B : Type 0} → (A → B) → Step A → Step B
map_step f (ok a n) = ok (f a) n
map_step f (refuse k p) = refuse k p
