-- A fault is shut out where one number, read off both answers, differs. Assumes nothing.
use Rattle.basis.specs.Prelude.{ℕ, ◌≡◌, sym, ap, ◌∙◌, Bool, true, false, arith, eq-eqb, eqb}
use Rattle.basis.specs.Words.{pick}
use Rattle.basis.specs.Refusals.{Outcome, accepted, refused}
use Rattle.basis.specs.Faults.{NoAnswer, NoneMeets}

-- the number that is read, and what it is of the faulty answer and of the promised one
pub apart : {A : Type 0} (read : A → ℕ) (faulty promised : A) (m n : ℕ) → read faulty ≡ m → read promised ≡ n → (m ≡ n → ⊥) → NoneMeets faulty promised
apart read faulty promised m n a b d answer e f = d (sym a ∙ ap read (sym e ∙ f) ∙ b)

-- numbers to read: that of a refusal, 0 where nothing is refused, and 1 and 0 of a test
abbrev pub number_of : Outcome → ℕ
number_of accepted = 0
number_of (refused number place) = number

abbrev pub bit : Bool → ℕ
bit t = pick t 1 0

-- two answers that some number tells apart
pub told_apart : {R A : Type 0} (stands : R → A) (faulty promised : A) (m : A → ℕ) → eqb (m faulty) (m promised) ≡ false → NoAnswer stands faulty promised
told_apart stands faulty promised m n r e f =
    let z : true ≡ false = sym (eq-eqb (m faulty) (m promised) (ap m (sym e ∙ f))) ∙ n in
    let y : ◌≡◌ {A = ℕ} 1 0 = ap (λ (b : Bool). pick b 1 0) z in
    absurd (omega arith)

-- the same of answers that are their own values
pub values_apart : {A : Type 0} (faulty promised : A) (m : A → ℕ) → eqb (m faulty) (m promised) ≡ false → NoneMeets faulty promised
values_apart {A} faulty promised m n = told_apart (λ (r : A). r) faulty promised m n
