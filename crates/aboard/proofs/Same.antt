-- Equal answers: any two answers that a promise allows are equal, and a refused slot leaves all as found. Assumes nothing.
use Rattle.std.specs.Prelude.{Result, Err}
use Rattle.basis.specs.Prelude.{ℕ, ◌≡◌, ap, List}
use Rattle.basis.proofs.Same.{same}
use Rattle.aboard.proofs.Names.{Refusal, Sheet, State, Ran, SlotAnswer, fresh, slot, run, held, ran, held_one_to_one, ran_one_to_one, slotted_in, refused_as_found}
use Rattle.basis.proofs.Refusals.{outcome_one_to_one}
use Rattle.machine.specs.States as states

-- `slot_in`: the refusal, the lent state and the code buffer after it
pub slotted_in_one_to_one : (a b : Result (Unit {0}) Refusal) (t u : State) (cs ds : List ℕ) → slotted_in a t cs ≡ slotted_in b u ds → (a ≡ b) × (t ≡ u) × (cs ≡ ds)
slotted_in_one_to_one a b t u cs ds e = (
  outcome_one_to_one a b (ap (λ (x : SlotAnswer states.State). x.outcome) e),
  held_one_to_one t u (ap (λ (x : SlotAnswer states.State). x.state) e),
  ap (λ (x : SlotAnswer states.State). x.codes) e,
)

pub slot_in_same : (h : Sheet) (t : State) (rel before : List ℕ) (a b : Result (Unit {0}) Refusal) (t₁ t₂ : State) (cs ds : List ℕ)
    → slotted_in a t₁ cs ≡ slot h (held t) rel before → slotted_in b t₂ ds ≡ slot h (held t) rel before → (a ≡ b) × (t₁ ≡ t₂) × (cs ≡ ds)
slot_in_same h t rel before a b t₁ t₂ cs ds e f = slotted_in_one_to_one a b t₁ t₂ cs ds (same (slot h (held t) rel before) _ _ e f)

-- `box_run`: the answer, and the code buffer after it
pub box_run_same : (h : Sheet) (rel before : List ℕ) (a b : Ran) (cs ds : List ℕ)
    → ran a cs ≡ run h (fresh h).state rel before → ran b ds ≡ run h (fresh h).state rel before → (a ≡ b) × (cs ≡ ds)
box_run_same h rel before a b cs ds e f = ran_one_to_one a b cs ds (same (run h (fresh h).state rel before) _ _ e f)

-- a lent slot that is refused leaves the state and every code
pub refused_leaves_all_as_found : (h : Sheet) (t : State) (rel cs : List ℕ) (r : Refusal) (u : State) (ds : List ℕ) → slotted_in (Err r) u ds ≡ slot h (held t) rel cs → (u ≡ t) × (ds ≡ cs)
refused_leaves_all_as_found h t rel cs r u ds e =
    let (same, codes) = refused_as_found h (held t) rel cs _ _ (held u) ds e in
    (held_one_to_one u t same, codes)
