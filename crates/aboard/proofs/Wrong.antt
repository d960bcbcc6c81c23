-- Wrong rules for a lent state and for the box's own loop are shut out: on sheet C no answer with the fault meets the promise. Assumes nothing.
use Rattle.basis.specs.Prelude.{ℕ, refl, [], ◌∷◌, arith, get_or}
use Rattle.basis.specs.Words.{all_of}
use Rattle.aboard.proofs.Names.{first_of, check_releases, check_state, check_room, check_slot, check_run}
use Rattle.basis.specs.Upto.{upto}
use Rattle.basis.specs.Faults.{NoneMeets}
use Rattle.basis.proofs.Faults.{apart, number_of}
use Rattle.sheet.specs.Legal.{legal_row, legal_at, legal}
use Rattle.tables.specs.Tables.{sheet_c}
use Rattle.records.specs.Records.{legal_job, is_zero_job}
use Rattle.records.specs.Steps.{released, fits, free_below, worked, older, aged, missed, ended, code_of}
use Rattle.records.specs.Checks.{check_row}
use Rattle.machine.specs.States.{State, record_at}
use Rattle.machine.specs.States as states
use Rattle.machine.specs.Slot.{free_at}
use Rattle.machine.specs.Answers.{SlotAnswer, RunAnswer, fresh, given, next_state, next_codes, slot, slot_at, onward, course, run}
use Rattle.aboard.specs.Wrong.{left_as_found, changed_always, box_of_zeros, box_without_codes, box_unchecked}

-- what remains of row 1 in the lent state
abbrev left_after : SlotAnswer State → ℕ
left_after x = (record_at x.state 1).job.remaining

-- ---- `slot_in`

-- row 1 is released for 3
pub left_as_found_is_shut_out : NoneMeets (left_as_found sheet_c (fresh sheet_c).state (1 ∷ 3 ∷ []) (9 ∷ 9 ∷ [])) (slot sheet_c (fresh sheet_c).state (1 ∷ 3 ∷ []) (9 ∷ 9 ∷ []))
unfolding left_as_found all_of first_of upto legal_row legal_at legal states.fresh_state legal_job is_zero_job states.legal_record_at states.legal_state released fits free_below free_at worked older aged missed ended code_of check_row check_releases check_state check_room check_slot fresh given next_state next_codes slot
left_as_found_is_shut_out = apart left_after _ _ 0 3 refl refl (λ e. omega arith)

-- and row 0 for more than its budget
pub changed_always_is_shut_out : NoneMeets (changed_always sheet_c (fresh sheet_c).state (2 ∷ 3 ∷ []) (9 ∷ 9 ∷ [])) (slot sheet_c (fresh sheet_c).state (2 ∷ 3 ∷ []) (9 ∷ 9 ∷ []))
unfolding changed_always all_of first_of upto legal_row legal_at legal states.fresh_state legal_job is_zero_job states.legal_record_at states.legal_state released fits free_below free_at worked older aged missed ended code_of check_row check_releases check_state check_room check_slot fresh given next_state next_codes slot
changed_always_is_shut_out = apart left_after _ _ 3 0 refl refl (λ e. omega arith)

-- ---- `box_run`

pub box_of_zeros_is_shut_out : NoneMeets (box_of_zeros sheet_c [] []) (run sheet_c (fresh sheet_c).state [] [])
unfolding box_of_zeros all_of first_of upto legal_row legal_at legal states.fresh_state legal_job is_zero_job states.legal_record_at states.legal_state check_state check_room check_run fresh course run
box_of_zeros_is_shut_out = apart (λ (c : RunAnswer State). number_of c.outcome) _ _ 16 0 refl refl (λ e. omega arith)

-- the first slot of case G
pub box_without_codes_is_shut_out : NoneMeets (box_without_codes sheet_c (1 ∷ 3 ∷ []) (9 ∷ 9 ∷ [])) (run sheet_c (fresh sheet_c).state (1 ∷ 3 ∷ []) (9 ∷ 9 ∷ []))
unfolding box_without_codes all_of first_of upto legal_row legal_at legal states.fresh_state legal_job is_zero_job states.legal_record_at states.legal_state released fits free_below free_at worked older aged missed ended code_of check_row check_releases check_state check_room check_slot check_run fresh given next_state next_codes slot slot_at onward course run
box_without_codes_is_shut_out = apart (λ (c : RunAnswer State). get_or c.codes 0 0) _ _ 9 3 refl refl (λ e. omega arith)

-- three entries for two rows
pub box_unchecked_is_shut_out : NoneMeets (box_unchecked sheet_c (1 ∷ 3 ∷ 0 ∷ []) (9 ∷ 9 ∷ 9 ∷ [])) (run sheet_c (fresh sheet_c).state (1 ∷ 3 ∷ 0 ∷ []) (9 ∷ 9 ∷ 9 ∷ []))
unfolding box_unchecked all_of first_of upto legal_row legal_at legal states.fresh_state legal_job is_zero_job states.legal_record_at states.legal_state released fits free_below free_at worked older aged missed ended code_of check_row check_releases check_state check_room check_slot check_run fresh given next_state next_codes slot slot_at onward course run
box_unchecked_is_shut_out = apart (λ (c : RunAnswer State). c.done) _ _ 1 0 refl refl (λ e. omega arith)
