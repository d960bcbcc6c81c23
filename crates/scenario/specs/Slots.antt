-- A scenario slot by slot, as a program reads it that holds one slot at a time.
use Rattle.basis.specs.Prelude.{ℕ, zero, suc, List, take}
use Rattle.basis.specs.Refusals.{Outcome, accepted, refused}
use Rattle.basis.specs.Readers.{Step, ok, refuse, Reader, after, give}
use Rattle.sheet.specs.declared.row.Sheet.{Sheet}
use Rattle.scenario.specs.Form.{Held, no_slots, slot_before, until_end}
use Rattle.scenario.specs.Answers.{read_slot}

-- An accepted slot, of which n entries count, before the others; a refusal is the answer.
unfoldable pub slot_then : ℕ → Outcome → List ℕ → Step Held → Step Held
slot_then n accepted entries others = after others (λ x next. ok (slot_before (take n entries) x) next)
slot_then n (refused number place) entries others = refuse number place

-- One slot after another up to the end of the bytes, f at most: each as the reader of one slot answers, and the next at the place after it.
unfoldable pub slot_by_slot : Sheet → ℕ → Reader Held
slot_by_slot h zero = give no_slots
slot_by_slot h (suc f) =
    until_end no_slots (λ s at. slot_then h.count (read_slot h s at).outcome (read_slot h s at).entries (slot_by_slot h f s (read_slot h s at).next))
