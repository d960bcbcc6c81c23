-- What a call with a lent state answers, with the state and the code buffer after it.
use Rattle.std.specs.Prelude.{Result}
use Rattle.basis.specs.Prelude.{ℕ, List}
use Rattle.basis.specs.Refusals.{outcome}
use Rattle.basis.specs.declared.refusal.Refusal.{Refusal}
use Rattle.machine.specs.States as states
use Rattle.states.specs.declared.state.State.{State}
use Rattle.states.specs.Values.{held}
use Rattle.machine.specs.Answers.{SlotAnswer, slot_answer}

-- The answer of `slot_in`: the outcome, the lent state, and the code buffer after it.
abbrev pub slotted_in : Result (Unit {0}) Refusal → State → List ℕ → SlotAnswer states.State
slotted_in r t codes = slot_answer (outcome r) (held t) codes
