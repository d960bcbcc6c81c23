-- Wrong rules for a lent state and for the box's own loop, each right but for one thing.
use Rattle.basis.specs.Prelude.{ℕ, List}
use Rattle.basis.specs.Refusals.{accepted}
use Rattle.sheet.specs.declared.row.Sheet.{Sheet}
use Rattle.machine.specs.States.{State, no_state}
use Rattle.machine.specs.Answers.{SlotAnswer, RunAnswer, slot_answer, run_answer, fresh, next_state, slot, course, run}

-- An accepted slot leaves the lent state as found.
unfoldable pub left_as_found : Sheet → State → List ℕ → List ℕ → SlotAnswer State
left_as_found h t releases codes = slot_answer (slot h t releases codes).outcome t (slot h t releases codes).codes

-- A refused slot changes the lent state all the same.
unfoldable pub changed_always : Sheet → State → List ℕ → List ℕ → SlotAnswer State
changed_always h t releases codes = slot_answer (slot h t releases codes).outcome (next_state h t releases) (slot h t releases codes).codes

-- The box's own loop begins with a state of zeros.
unfoldable pub box_of_zeros : Sheet → List ℕ → List ℕ → RunAnswer State
box_of_zeros h releases codes = run h no_state releases codes

-- It writes no codes.
unfoldable pub box_without_codes : Sheet → List ℕ → List ℕ → RunAnswer State
box_without_codes h releases codes =
    record {
      done = (run h (fresh h).state releases codes).done;
      outcome = (run h (fresh h).state releases codes).outcome;
      state = (run h (fresh h).state releases codes).state;
      codes = codes;
    }

-- It does a slot of a run that its checks refuse.
unfoldable pub box_unchecked : Sheet → List ℕ → List ℕ → RunAnswer State
box_unchecked h releases codes = course h releases (run_answer 0 accepted (fresh h).state codes) 1
