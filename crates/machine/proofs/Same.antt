-- Equal answers: what an answer stands for is one value of the code, and any two answers that a promise allows are equal. Assumes nothing.
use Rattle.std.specs.Prelude.{ℤ, Option, Some, None, Result, Ok, Err}
use Rattle.basis.specs.Prelude.{ℕ, ◌≡◌, refl, ap, List}
use Rattle.basis.specs.Refusals.{told}
use Rattle.basis.proofs.Refusals.{told_one_to_one}
use Rattle.basis.proofs.Same.{same, same_by}
use Rattle.machine.proofs.Names.{outcome, Refusal, outcome_one_to_one, sheet_in, Done, state_in, fresh_on, slot_in, run_in, ran_in, check_slot, check_run, fresh_answer, slot_answer, margin_answer, margin}

-- `fresh_on`: the refusal, and the list after it
pub fresh_on_same : (sheet list : List ℕ) (a b : Result (Unit {0}) Refusal) (l m : List ℕ) → fresh_answer (outcome a) l ≡ fresh_on (sheet_in sheet) list → fresh_answer (outcome b) m ≡ fresh_on (sheet_in sheet) list → (a ≡ b) × (l ≡ m)
fresh_on_same sheet list a b l m e f =
    let g = same (fresh_on (sheet_in sheet) list) (fresh_answer (outcome a) l) (fresh_answer (outcome b) m) e f in (outcome_one_to_one a b (λ i. (g i).outcome), λ i. (g i).state)

-- `slot_on`: the refusal, the list and the code buffer after it
pub listed_one_to_one : (a b : Result (Unit {0}) Refusal) (l m cs ds : List ℕ) → slot_answer (outcome a) l cs ≡ slot_answer (outcome b) m ds → (a ≡ b) × (l ≡ m) × (cs ≡ ds)
listed_one_to_one a b l m cs ds e = (outcome_one_to_one a b (λ i. (e i).outcome), λ i. (e i).state, λ i. (e i).codes)

pub slot_on_same : (sheet list rel before : List ℕ) (a b : Result (Unit {0}) Refusal) (l m cs ds : List ℕ)
    → slot_answer (outcome a) l cs ≡ slot_in (sheet_in sheet) list rel before → slot_answer (outcome b) m ds ≡ slot_in (sheet_in sheet) list rel before → (a ≡ b) × (l ≡ m) × (cs ≡ ds)
slot_on_same sheet list rel before a b l m cs ds e f = listed_one_to_one a b l m cs ds (same (slot_in (sheet_in sheet) list rel before) _ _ e f)

-- `run_on`: the answer, the list and the code buffer after it
pub done_one_to_one : (a b : Done) (l m cs ds : List ℕ) → ran_in a l cs ≡ ran_in b m ds → (a ≡ b) × (l ≡ m) × (cs ≡ ds)
done_one_to_one a b l m cs ds e =
    let r = outcome_one_to_one a.ended b.ended (λ i. (e i).outcome) in (λ i. record { done = (e i).done; ended = r i }, λ i. (e i).state, λ i. (e i).codes)

pub run_on_same : (sheet list rel before : List ℕ) (a b : Done) (l m cs ds : List ℕ)
    → ran_in a l cs ≡ run_in (sheet_in sheet) list rel before → ran_in b m ds ≡ run_in (sheet_in sheet) list rel before → (a ≡ b) × (l ≡ m) × (cs ≡ ds)
run_on_same sheet list rel before a b l m cs ds e f = done_one_to_one a b l m cs ds (same (run_in (sheet_in sheet) list rel before) _ _ e f)

-- what is told of a margin
pub margin_one_to_one : (a b : Result (Option ℤ) Refusal) → margin_answer a ≡ margin_answer b → a ≡ b
margin_one_to_one (Ok None) (Ok None) e = refl
margin_one_to_one (Ok None) (Ok (Some z)) e = cc
margin_one_to_one (Ok None) (Err s) e = cc
margin_one_to_one (Ok (Some y)) (Ok None) e = cc
margin_one_to_one (Ok (Some y)) (Ok (Some z)) e = cc
margin_one_to_one (Ok (Some y)) (Err s) e = cc
margin_one_to_one (Err r) (Ok None) e = cc
margin_one_to_one (Err r) (Ok (Some z)) e = cc
margin_one_to_one (Err r) (Err s) e = let k : (told r).0 ≡ (told s).0 = cc in let p : (told r).1 ≡ (told s).1 = cc in ap Err (told_one_to_one r s (λ i. (k i, p i)))

-- `margin_on`
pub margin_on_same : (sheet list : List ℕ) (k : ℕ) (a b : Result (Option ℤ) Refusal) → margin_answer a ≡ margin (sheet_in sheet) (state_in list) k → margin_answer b ≡ margin (sheet_in sheet) (state_in list) k → a ≡ b
margin_on_same sheet list k = same_by margin_answer margin_one_to_one (margin (sheet_in sheet) (state_in list) k)

-- the checks of a slot and of a run
pub check_slot_in_same : (sheet list rel : List ℕ) (room : ℕ) (a b : Result (Unit {0}) Refusal) → outcome a ≡ check_slot (sheet_in sheet) (state_in list) rel room → outcome b ≡ check_slot (sheet_in sheet) (state_in list) rel room → a ≡ b
check_slot_in_same sheet list rel room = same_by outcome outcome_one_to_one (check_slot (sheet_in sheet) (state_in list) rel room)

pub check_run_in_same : (sheet list rel : List ℕ) (room : ℕ) (a b : Result (Unit {0}) Refusal) → outcome a ≡ check_run (sheet_in sheet) (state_in list) rel room → outcome b ≡ check_run (sheet_in sheet) (state_in list) rel room → a ≡ b
check_run_in_same sheet list rel room = same_by outcome outcome_one_to_one (check_run (sheet_in sheet) (state_in list) rel room)
