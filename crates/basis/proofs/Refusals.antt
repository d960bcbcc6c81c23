-- Laws of refusals: an outcome stands for one answer of the code, and two answers that a promise allows are equal. Assumes nothing.
use Rattle.std.specs.Prelude.{Result, Ok, Err, IsErrAnd}
use Rattle.basis.specs.Prelude.{◌≡◌, refl, sym, ap, ◌∙◌, eqb, Bool, true, false, leb, leb-true, ℕ, ◌≤◌, arith}
use Rattle.basis.specs.Words.{pick}
use Rattle.basis.specs.Readers.{step}
use Rattle.basis.specs.Refusals.{Outcome, accepted, refused, told, refused_by, outcome, or_else, needed, room_for, handed}
use Rattle.basis.specs.declared.refusal.Refusal.{Refusal}
use Rattle.basis.specs.declared.refusal.Refusal.TheVariants.{Mark, Ends, Number, Processors, Rows, Label, Zero, Over, Trailing, Sheet, Releases, Budget, Soon, Row, Room, State, Order}

-- the refusal of a number and a place
abbrev refusal_of : ℕ × ℕ → Refusal
refusal_of (k, p) =
    pick (eqb k 1) Mark (
    pick (eqb k 2) (Ends p) (
    pick (eqb k 3) (Number p) (
    pick (eqb k 4) (Processors p) (
    pick (eqb k 5) (Rows p) (
    pick (eqb k 6) (Label p) (
    pick (eqb k 7) (Zero p) (
    pick (eqb k 8) (Over p) (
    pick (eqb k 9) (Trailing p) (
    pick (eqb k 10) Sheet (
    pick (eqb k 11) Releases (
    pick (eqb k 12) (Budget p) (
    pick (eqb k 13) (Soon p) (
    pick (eqb k 14) (Row p) (
    pick (eqb k 15) Room (
    pick (eqb k 16) State (
    Order p))))))))))))))))

refusal_told : (r : Refusal) → refusal_of (told r) ≡ r
refusal_told Mark = refl
refusal_told (Ends place) = refl
refusal_told (Number place) = refl
refusal_told (Processors place) = refl
refusal_told (Rows place) = refl
refusal_told (Label place) = refl
refusal_told (Zero place) = refl
refusal_told (Over place) = refl
refusal_told (Trailing place) = refl
refusal_told Sheet = refl
refusal_told Releases = refl
refusal_told (Budget place) = refl
refusal_told (Soon place) = refl
refusal_told (Row place) = refl
refusal_told Room = refl
refusal_told State = refl
refusal_told (Order place) = refl

-- a refusal is its number and its place
pub told_one_to_one : (a b : Refusal) → told a ≡ told b → a ≡ b
told_one_to_one a b e = sym (refusal_told a) ∙ ap refusal_of e ∙ refusal_told b

pub refused_by_one_to_one : (a b : Refusal) → refused_by a ≡ refused_by b → a ≡ b
refused_by_one_to_one a b e = let k : (told a).0 ≡ (told b).0 = cc in let p : (told a).1 ≡ (told b).1 = cc in told_one_to_one a b (λ i. (k i, p i))

-- an outcome is one answer that hands nothing over
pub outcome_one_to_one : (a b : Result (Unit {0}) Refusal) → outcome a ≡ outcome b → a ≡ b
outcome_one_to_one (Ok a) (Ok b) e = refl
outcome_one_to_one (Ok a) (Err r) e = cc
outcome_one_to_one (Err r) (Ok a) e = cc
outcome_one_to_one (Err r) (Err s) e = ap Err (refused_by_one_to_one r s e)

-- a step is one answer of the code
pub step_one_to_one : {A : Type 0} (a b : Result (A × ℕ) Refusal) → step a ≡ step b → a ≡ b
step_one_to_one (Ok (a, m)) (Ok (b, n)) e = let x : a ≡ b = cc in let y : m ≡ n = cc in λ i. Ok (x i, y i)
step_one_to_one (Ok a) (Err r) e = cc
step_one_to_one (Err r) (Ok a) e = cc
step_one_to_one (Err r) (Err s) e = let k : (told r).0 ≡ (told s).0 = cc in let p : (told r).1 ≡ (told s).1 = cc in ap Err (told_one_to_one r s (λ i. (k i, p i)))

-- a test that was needed, and nothing is refused
pub needed_holds : (t : Bool) (n : ℕ) → needed t n ≡ accepted → t ≡ true
needed_holds true n e = refl
needed_holds false n e = let z : ◌≡◌ {A = ℕ} 0 1 = cc in absurd (omega arith)

-- there is room where 15 is not given
pub room_holds : (needs room : ℕ) → room_for needs room ≡ accepted → needs ≤ room
room_holds needs room e = leb-true needs room (needed_holds (leb needs room) 15 e)

-- what is handed over beside a refusal, and where nothing is refused
module _ {A : Type 0} (done found : A) where
  pub handed_found : (o : Outcome) (k p : ℕ) → (handed o done found).0 ≡ refused k p → (handed o done found).1 ≡ found
  handed_found accepted k p e = let z : ◌≡◌ {A = ℕ} 0 1 = cc in absurd (omega arith)
  handed_found (refused j q) k p e = refl

  pub handed_done : (o : Outcome) → (handed o done found).0 ≡ accepted → (o ≡ accepted) × ((handed o done found).1 ≡ done)
  handed_done accepted e = (refl, refl)
  handed_done (refused j q) e = let z : ◌≡◌ {A = ℕ} 0 1 = cc in absurd (omega arith)

  pub handed_outcome : (o : Outcome) → (handed o done found).0 ≡ o
  handed_outcome accepted = refl
  handed_outcome (refused j q) = refl

-- nothing more is refused
pub or_nothing : (o : Outcome) → or_else o accepted ≡ o
or_nothing accepted = refl
or_nothing (refused j q) = refl

-- what a `?` passes on is the refusal that it met
pub passed_on : {A : Type 0} (r : Result A Refusal) (d : Refusal) → IsErrAnd r (λ e. e ≡ d) → r ≡ Err d
passed_on (Ok a) d h = absurd h
passed_on (Err e) d h = ap Err h
