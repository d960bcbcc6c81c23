-- Two answers that one promise allows are equal. Assumes nothing.
use Rattle.std.specs.Prelude.{Result, Ok, Err}
use Rattle.std.specs.Result.{is_ok}
use Rattle.basis.specs.Prelude.{◌≡◌, refl, sym, ap, ◌∙◌, Bool}
use Rattle.basis.specs.Refusals.{Outcome, outcome, is_accepted}
use Rattle.basis.specs.declared.refusal.Refusal.{Refusal}
use Rattle.basis.proofs.Refusals.{outcome_one_to_one}

-- the answer is what is promised
pub same : {A : Type 0} (x a b : A) → a ≡ x → b ≡ x → a ≡ b
same x a b e f = e ∙ sym f

-- the answer stands for what is promised, and nothing else stands for it
pub same_by : {R A : Type 0} (stands : R → A) → ((a b : R) → stands a ≡ stands b → a ≡ b) → (x : A) (a b : R) → stands a ≡ x → stands b ≡ x → a ≡ b
same_by stands one x a b e f = one a b (e ∙ sym f)

-- two things are promised together
pub pair_same : {A B : Type 0} (x : A × B) (a b : A) (m n : B) → (a, m) ≡ x → (b, n) ≡ x → (a ≡ b) × (m ≡ n)
pair_same {A} {B} x a b m n e f =
    let g = e ∙ sym f in
    (ap (λ (y : A × B). y.0) g, ap (λ (y : A × B). y.1) g)

-- an outcome, and what is handed over beside it
pub outcome_same : {A : Type 0} (x : Outcome × A) (a b : Result (Unit {0}) Refusal) (m n : A) → (outcome a, m) ≡ x → (outcome b, n) ≡ x → (a ≡ b) × (m ≡ n)
outcome_same x a b m n e f =
    let (o, h) = pair_same x (outcome a) (outcome b) m n e f in
    (outcome_one_to_one a b o, h)

-- `is_accepted`
pub is_accepted_same : (r : Result (Unit {0}) Refusal) (a b : Bool) → a ≡ is_accepted (outcome r) → b ≡ is_accepted (outcome r) → a ≡ b
is_accepted_same r = same (is_accepted (outcome r))

-- and the kit's `is_ok` tells it
pub is_ok_is_accepted : (r : Result (Unit {0}) Refusal) → is_ok r ≡ is_accepted (outcome r)
is_ok_is_accepted (Ok u) = refl
is_ok_is_accepted (Err e) = refl
