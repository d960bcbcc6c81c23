-- What it says that a promise shuts a fault out.
use Rattle.std.specs.Prelude.{◌≡◌}

-- No answer of the code stands both for what a faulty rule says and for what is promised.
abbrev pub NoAnswer : {R A : Type 0} → (R → A) → A → A → Type 0
NoAnswer {R} stands faulty promised = (r : R) → stands r ≡ faulty → stands r ≡ promised → ⊥

-- The same where the answer is its own value.
abbrev pub NoneMeets : {A : Type 0} → A → A → Type 0
NoneMeets {A} faulty promised = NoAnswer (λ (r : A). r) faulty promised
