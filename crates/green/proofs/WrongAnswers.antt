-- Wrong answers of green and wrong histories are shut out: on the bytes of sheets C and D, and on runs of sheet D. Assumes nothing.
use Rattle.std.specs.Prelude.{Ok}
use Rattle.basis.specs.Prelude.{ℕ, zero, suc, ◌+◌, ◌<◌, ◌≡◌, refl, List, [], ◌∷◌, arith, length, true, false}
use Rattle.green.proofs.Names.{all_of, sum, first_of, upto, legal, legal_at, legal_row, holds, result_of, results_to, judge, bound_by, least, sheet_d, legal_job, is_zero_job, released, fits, free_below, worked, older, aged, missed, ended, code_of, check_row, fresh_state, legal_state, free_at, check_releases, check_state, check_room, check_slot, check_run, fresh, given, next_state, next_codes, slot, slot_at, onward, course, run, Done, fresh_of, run_done, history, code_in, FinishedWithin, InTime, green_of, box_done, tight, bytes_c, bytes_d, always_green, never_green, green_if_read, slots_once, slots_all, history_by, too_soon, box_swapped, one_slot_ran, StuckSlots, no_more, once_more, stuck, at_most, short_w, long_x, wide_q, two_ones, both_released}
use Rattle.basis.specs.Readers.{begins}
use Rattle.basis.specs.Faults.{NoneMeets}
use Rattle.basis.proofs.Faults.{apart, bit}
use Rattle.numbers.specs.Numbers.{groups, up_to_by}
use Rattle.reader.specs.Form.{plain, label_by, entry_by, entries_by, body_by, head_by, sheet_by}
use Rattle.bound.specs.Test.{passes, amounts, amount_of, duration_of, room, q, X, x, W}
use Rattle.machine.specs.States as states
use Rattle.states.specs.declared.state.State.{State as Value}

-- ---- `green`

pub always_green_is_shut_out : NoneMeets (always_green bytes_c) (green_of bytes_c)
unfolding green_of all_of sum begins groups up_to_by plain label_by entry_by entries_by body_by head_by sheet_by q X x W duration_of amount_of amounts room passes least bound_by judge results_to result_of holds
always_green_is_shut_out = apart bit _ _ 1 0 refl refl (λ e. omega arith)

pub never_green_is_shut_out : NoneMeets (never_green bytes_d) (green_of bytes_d)
unfolding green_of all_of sum begins groups up_to_by plain label_by entry_by entries_by body_by head_by sheet_by q X x W duration_of amount_of amounts room passes least bound_by judge results_to result_of holds
never_green_is_shut_out = apart bit _ _ 0 1 refl refl (λ e. omega arith)

pub green_if_read_is_shut_out : NoneMeets (green_if_read bytes_c) (green_of bytes_c)
unfolding green_if_read green_of all_of sum begins groups up_to_by plain label_by entry_by entries_by body_by head_by sheet_by q X x W duration_of amount_of amounts room passes least bound_by judge results_to result_of holds
green_if_read_is_shut_out = apart bit _ _ 1 0 refl refl (λ e. omega arith)

-- ---- the history that demand 3 is about

-- the run has four slots
pub once_is_shut_out : NoneMeets (history_by slots_once sheet_d (fresh_of sheet_d) tight) (history sheet_d (fresh_of sheet_d) tight)
unfolding history_by history run_done fresh given next_state next_codes slot slot_at onward course run check_row check_releases check_state check_room check_slot check_run released fits free_below free_at worked older aged missed ended code_of fresh_state legal_state legal_job is_zero_job states.legal_record_at legal legal_at legal_row first_of upto all_of
once_is_shut_out = apart (λ (ds : List Done). length ds) _ _ 1 4 refl refl (λ e. omega arith)

-- its second slot is refused
pub all_is_shut_out : NoneMeets (history_by slots_all sheet_d (fresh_of sheet_d) too_soon) (history sheet_d (fresh_of sheet_d) too_soon)
unfolding history_by history run_done fresh given next_state next_codes slot slot_at onward course run check_row check_releases check_state check_room check_slot check_run released fits free_below free_at worked older aged missed ended code_of fresh_state legal_state legal_job is_zero_job states.legal_record_at legal legal_at legal_row first_of upto all_of
all_is_shut_out = apart (λ (ds : List Done). length ds) _ _ 2 1 refl refl (λ e. omega arith)

-- the codes 3 1 are no releases
pub box_swapped_is_shut_out : NoneMeets (box_swapped sheet_d (1 ∷ 2 ∷ []) one_slot_ran (3 ∷ 1 ∷ [])) (box_done sheet_d (1 ∷ 2 ∷ []) one_slot_ran (3 ∷ 1 ∷ []))
unfolding box_swapped run_done
box_swapped_is_shut_out = apart (λ (ds : List Done). code_in ds 0 0) _ _ 1 3 refl refl (λ e. omega arith)

-- ---- demand 3

-- a bound of one slot less is not kept: row 1 of sheet D, whose bound is 4, is not finished in 3 slots
pub one_slot_less_is_too_few : FinishedWithin (history sheet_d (fresh_of sheet_d) tight) 0 1 3 → ⊥
unfolding history run_done fresh given next_state next_codes slot slot_at onward course run check_row check_releases check_state check_room check_slot check_run released fits free_below free_at worked older aged missed ended code_of fresh_state legal_state legal_job is_zero_job states.legal_record_at legal legal_at legal_row first_of upto all_of
one_slot_less_is_too_few f = go f.later f.within f.finished
  where
    go : (n : ℕ) → n < 3 → code_in (history sheet_d (fresh_of sheet_d) tight) (0 + n) 1 ≡ 3 → ⊥
    go zero l e = let z : ◌≡◌ {A = ℕ} 1 3 = e in omega arith
    go (suc zero) l e = let z : ◌≡◌ {A = ℕ} 2 3 = e in omega arith
    go (suc (suc zero)) l e = let z : ◌≡◌ {A = ℕ} 1 3 = e in omega arith
    go (suc (suc (suc n))) l e = omega arith

-- a claim that no slot has a code 3 is not kept: row 0 of sheet D has one in the first slot
pub finished_is_no_miss : ((j k : ℕ) → j < 4 → k < 2 → code_in (history sheet_d (fresh_of sheet_d) tight) j k ≡ 3 → ⊥) → ⊥
unfolding history run_done fresh given next_state next_codes slot slot_at onward course run check_row check_releases check_state check_room check_slot check_run released fits free_below free_at worked older aged missed ended code_of fresh_state legal_state legal_job is_zero_job states.legal_record_at legal legal_at legal_row first_of upto all_of
finished_is_no_miss none = none 0 0 (omega arith) (omega arith) refl

-- the value of the state after a slot of sheet D from fresh
abbrev after : List ℕ → Value
after releases = record { rows = (next_state sheet_d (fresh_of sheet_d) releases).rows }

-- slots that each begin with the state that the first one found are not in time
pub stuck_slots : StuckSlots sheet_d (fresh_of sheet_d) stuck
unfolding fresh given next_state next_codes slot slot_at onward course run check_row check_releases check_state check_room check_slot check_run released fits free_below free_at worked older aged missed ended code_of fresh_state legal_state legal_job is_zero_job states.legal_record_at legal legal_at legal_row first_of upto all_of
stuck_slots =
    once_more {after = after (0 ∷ 2 ∷ [])} (0 ∷ 2 ∷ []) (9 ∷ 9 ∷ []) _ (Ok tt) refl
    (once_more {after = after (0 ∷ 0 ∷ [])} (0 ∷ 0 ∷ []) (9 ∷ 9 ∷ []) _ (Ok tt) refl
    (once_more {after = after (0 ∷ 0 ∷ [])} (0 ∷ 0 ∷ []) (9 ∷ 9 ∷ []) _ (Ok tt) refl
    (once_more {after = after (0 ∷ 0 ∷ [])} (0 ∷ 0 ∷ []) (9 ∷ 9 ∷ []) _ (Ok tt) refl no_more)))

pub stuck_slots_are_late : InTime sheet_d sheet_d.count stuck → ⊥
unfolding all_of sum begins groups up_to_by plain label_by entry_by entries_by body_by head_by sheet_by q X x W duration_of amount_of amounts room passes least bound_by judge results_to result_of holds
stuck_slots_are_late t = go f.later f.within f.finished
  where
    f : FinishedWithin stuck 0 1 4
    f = t.each_finished 0 1 4 (omega arith) refl (omega arith) (omega arith)

    go : (n : ℕ) → n < 4 → code_in stuck (0 + n) 1 ≡ 3 → ⊥
    go zero l e = let z : ◌≡◌ {A = ℕ} 2 3 = e in omega arith
    go (suc zero) l e = let z : ◌≡◌ {A = ℕ} 0 3 = e in omega arith
    go (suc (suc zero)) l e = let z : ◌≡◌ {A = ℕ} 0 3 = e in omega arith
    go (suc (suc (suc zero))) l e = let z : ◌≡◌ {A = ℕ} 0 3 = e in omega arith
    go (suc (suc (suc (suc n)))) l e = omega arith

-- ---- wrong tests: the sheet of two rows (1,1,1,1) on one processor holds by each of them, and its second row misses its deadline

-- each wrong test says that the sheet holds, and the test of 01 that it does not
pub wrong_tests_pass : (holds at_most two_ones ≡ true) × (holds short_w two_ones ≡ true) × (holds long_x two_ones ≡ true) × (holds wide_q two_ones ≡ true) × (holds passes two_ones ≡ false)
unfolding holds result_of results_to judge bound_by least all_of sum at_most short_w long_x wide_q passes amounts amount_of duration_of room q X x W
wrong_tests_pass = (refl, refl, refl, refl, refl)

-- and row 1 has a code 4 in the first slot
pub second_row_misses : code_in (history two_ones (fresh_of two_ones) both_released) 0 1 ≡ 4
unfolding history run_done fresh given next_state next_codes slot slot_at onward course run check_row check_releases check_state check_room check_slot check_run released fits free_below free_at worked older aged missed ended code_of fresh_state legal_state legal_job is_zero_job states.legal_record_at legal legal_at legal_row first_of upto all_of
second_row_misses = refl
