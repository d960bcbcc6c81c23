-- A number in its range with errors of any type, as the one private function that reads it says. No promise of a public function speaks of it.
use Rattle.std.specs.Prelude.{Result, Ok, Err, ◌≡◌}
use Rattle.basis.specs.Prelude.{ℕ, List, leb, eqb}
use Rattle.basis.specs.Words.{pick}
use Rattle.basis.specs.Refusals.{told}
use Rattle.basis.specs.Readers.{Step, ok, refuse}
use Rattle.basis.specs.declared.refusal.Refusal.{Refusal}
use Rattle.numbers.specs.Numbers.{number}

-- What is answered of a number that is read, with errors of any type into which refusals are made: its value in the range, an error where it is zero, and another where it is over;
-- where it is refused, an error that is made of the refusal by its number and place.
abbrev pub InRange : {E : Type 0} → (Refusal → E → Type 0) → ℕ → E → E → Step ℕ → Result (ℕ × ℕ) E → Type 0
InRange makes most under over (ok v next) r = r ≡ pick (eqb v 0) (Err under) (pick (leb v most) (Ok (v, next)) (Err over))
InRange {E} makes most under over (refuse k p) r = (x : Refusal) × (e : E) × (told x ≡ (k, p)) × makes x e × (r ≡ Err e)

-- What reading it answers.
abbrev pub UpTo : {E : Type 0} → (Refusal → E → Type 0) → ℕ → E → E → List ℕ → ℕ → Result (ℕ × ℕ) E → Type 0
UpTo makes most under over s at r = InRange makes most under over (number s at) r
