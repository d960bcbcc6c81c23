-- What the answers of the code by value stand for.
use Rattle.basis.specs.Prelude.{ℕ, List}
use Rattle.std.specs.Prelude.{Result, Ok, Err}
use Rattle.basis.specs.Refusals.{accepted, refused_by, outcome}
use Rattle.basis.specs.declared.refusal.Refusal.{Refusal}
use Rattle.machine.specs.States as states
use Rattle.machine.specs.States.{state_of, no_state}
use Rattle.machine.specs.Answers.{FreshAnswer, SlotAnswer, RunAnswer, fresh_answer, slot_answer, run_answer}
use Rattle.states.specs.declared.state.State.{State}
use Rattle.states.specs.declared.runs.Ran.{Ran}

-- The state that a value of the code holds: its records.
abbrev pub held : State → states.State
held t = state_of t.rows

-- The answer of `fresh`: the outcome, and the state; beside a refusal all records are zero.
abbrev pub started : Result State Refusal → FreshAnswer states.State
started (Ok t) = fresh_answer accepted (held t)
started (Err r) = fresh_answer (refused_by r) no_state

-- The answer of a slot from a state: the outcome, the state, which beside a refusal is the one that it came from, and the code buffer after it.
abbrev pub slotted : states.State → Result State Refusal → List ℕ → SlotAnswer states.State
slotted t (Ok u) codes = slot_answer accepted (held u) codes
slotted t (Err r) codes = slot_answer (refused_by r) t codes

-- The answer of `run`, with the code buffer after it.
abbrev pub ran : Ran → List ℕ → RunAnswer states.State
ran r codes = run_answer r.done (outcome r.ended) (held r.state) codes
