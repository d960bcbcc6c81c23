-- Equal answers: what an answer stands for is one value of the code, and any two answers that a promise allows are equal. Assumes nothing.
use Rattle.std.specs.Prelude.{ℤ, Option, Result, Ok, Err}
use Rattle.basis.specs.Prelude.{ℕ, ◌≡◌, ap, List}
use Rattle.basis.specs.Refusals.{accepted, refused_by}
use Rattle.basis.proofs.Same.{same, same_by}
use Rattle.states.proofs.Names.{outcome, Refusal, Sheet, State, check_run, fresh, slot, run, margin_answer, margin, held, started, slotted, ran}
use Rattle.basis.proofs.Refusals.{outcome_one_to_one, refused_by_one_to_one}
use Rattle.machine.proofs.Same.{margin_one_to_one}
use Rattle.states.specs.declared.state.State.{State as Value}
use Rattle.states.specs.declared.runs.Ran.{Ran}

-- the value that holds a state
abbrev value : State → Value
value t = record { rows = t.rows }

-- a state is held by one value
pub held_one_to_one : (a b : Value) → held a ≡ held b → a ≡ b
held_one_to_one a b e = ap value e

-- `fresh`
pub started_one_to_one : (a b : Result Value Refusal) → started a ≡ started b → a ≡ b
started_one_to_one (Ok t) (Ok u) e = ap Ok (held_one_to_one t u (λ i. (e i).state))
started_one_to_one (Ok t) (Err s) e = let z : accepted ≡ refused_by s = λ i. (e i).outcome in cc
started_one_to_one (Err r) (Ok u) e = let z : refused_by r ≡ accepted = λ i. (e i).outcome in cc
started_one_to_one (Err r) (Err s) e = ap Err (refused_by_one_to_one r s (λ i. (e i).outcome))

pub fresh_same : (h : Sheet) (a b : Result Value Refusal) → started a ≡ fresh h → started b ≡ fresh h → a ≡ b
fresh_same h = same_by started started_one_to_one (fresh h)

-- `slot`: the answer, and the code buffer after it
pub slotted_one_to_one : (t : State) (a b : Result Value Refusal) (cs ds : List ℕ) → slotted t a cs ≡ slotted t b ds → (a ≡ b) × (cs ≡ ds)
slotted_one_to_one t (Ok u) (Ok v) cs ds e = (ap Ok (held_one_to_one u v (λ i. (e i).state)), λ i. (e i).codes)
slotted_one_to_one t (Ok u) (Err s) cs ds e = let z : accepted ≡ refused_by s = λ i. (e i).outcome in cc
slotted_one_to_one t (Err r) (Ok v) cs ds e = let z : refused_by r ≡ accepted = λ i. (e i).outcome in cc
slotted_one_to_one t (Err r) (Err s) cs ds e = (ap Err (refused_by_one_to_one r s (λ i. (e i).outcome)), λ i. (e i).codes)

pub slot_same : (h : Sheet) (t : Value) (rel before : List ℕ) (a b : Result Value Refusal) (cs ds : List ℕ)
    → slotted (held t) a cs ≡ slot h (held t) rel before → slotted (held t) b ds ≡ slot h (held t) rel before → (a ≡ b) × (cs ≡ ds)
slot_same h t rel before a b cs ds e f = slotted_one_to_one (held t) a b cs ds (same (slot h (held t) rel before) _ _ e f)

-- `run`: the answer, and the code buffer after it
pub ran_one_to_one : (a b : Ran) (cs ds : List ℕ) → ran a cs ≡ ran b ds → (a ≡ b) × (cs ≡ ds)
ran_one_to_one a b cs ds e =
    let r = outcome_one_to_one a.ended b.ended (λ i. (e i).outcome) in (λ i. record { done = (e i).done; ended = r i; state = value (e i).state }, λ i. (e i).codes)

pub run_same : (h : Sheet) (t : Value) (rel before : List ℕ) (a b : Ran) (cs ds : List ℕ)
    → ran a cs ≡ run h (held t) rel before → ran b ds ≡ run h (held t) rel before → (a ≡ b) × (cs ≡ ds)
run_same h t rel before a b cs ds e f = ran_one_to_one a b cs ds (same (run h (held t) rel before) _ _ e f)

-- `check_run`
pub check_run_same : (h : Sheet) (t : Value) (rel : List ℕ) (room : ℕ) (a b : Result (Unit {0}) Refusal) → outcome a ≡ check_run h (held t) rel room → outcome b ≡ check_run h (held t) rel room → a ≡ b
check_run_same h t rel room = same_by outcome outcome_one_to_one (check_run h (held t) rel room)

-- `margin`
pub margin_same : (h : Sheet) (t : Value) (k : ℕ) (a b : Result (Option ℤ) Refusal) → margin_answer a ≡ margin h (held t) k → margin_answer b ≡ margin h (held t) k → a ≡ b
margin_same h t k = same_by margin_answer margin_one_to_one (margin h (held t) k)
