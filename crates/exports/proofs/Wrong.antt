-- Wrong answers of the calls for other programs are shut out: on the list or the bytes of sheet C, or on none, no answer with the fault meets the promise. Assumes nothing.
use Rattle.basis.specs.Prelude.{ℕ, refl, List, [], ◌∷◌, arith, get_or, replicate}
use lib.IntN.{ℤ, pos, negsuc}
use Rattle.exports.proofs.Names.{all_of, sum, begins, first_of, upto, NoneMeets, apart, groups, up_to_by, legal_row, legal_at, legal, filled, row_in, sheet_in, row_cell, list_cell, label_in, holds, result_of, results_to, judge, bound_by, least, bounds_by, legal_job, is_zero_job, released, fits, free_below, worked, older, aged, missed, ended, code_of, check_row, free_at, check_releases, check_state, check_room, check_slot, check_run, check_margin, fresh, given, next_state, next_codes, slot, course, run, margin_at, margin, record_in, zero_at, zero_from, state_in, put_record, put_to, put_state, fresh_on, slot_in, run_in, Page, written, verdict_text, verdict_in, fields_in, read_in, label_answer, results_in, bounds_in, fresh_in, slot_on, run_on, margin_given, margin_in}
use Rattle.reader.specs.Form.{plain, label_by, entry_by, entries_by, body_by, head_by, sheet_by, label_head}
use Rattle.bound.specs.Test.{passes, amounts, amount_of, duration_of, room, q, X, x, W}
use Rattle.machine.specs.States as states
use Rattle.machine.specs.Wrong.{list_c, fresh_list_c}
use Rattle.page.specs.Decimals.{digits, decimal}
use Rattle.dashboard.specs.Words.{refused_by, no_verdict}
use Rattle.green.specs.Wrong.{bytes_c}
use Rattle.exports.specs.Wrong.{told_zero, verdict_cut, verdict_untold, read_filled, label_swapped, bounds_hold, fresh_list_kept, slot_state_kept, run_of_one, margin_with_job, margin_of_zero}

-- the number that is told
abbrev told_number : {A : Type 0} → (ℕ × ℕ) × A → ℕ
told_number x = x.0.0

-- ---- `giachimu_verdict`: of no bytes, the 15 bytes `NO VERDICT 1 0`

pub verdict_cut_is_shut_out : NoneMeets (verdict_cut [] (9 ∷ 9 ∷ 9 ∷ []) 0) (verdict_in [] (9 ∷ 9 ∷ 9 ∷ []) 0)
unfolding verdict_cut verdict_in verdict_text begins groups up_to_by plain label_by entry_by entries_by body_by head_by sheet_by no_verdict refused_by decimal digits
verdict_cut_is_shut_out = apart told_number _ _ 0 15 refl refl (λ e. omega arith)

pub verdict_untold_is_shut_out : NoneMeets (verdict_untold [] (replicate 20 9) 7) (verdict_in [] (replicate 20 9) 7)
unfolding verdict_untold verdict_in written verdict_text begins groups up_to_by plain label_by entry_by entries_by body_by head_by sheet_by no_verdict refused_by decimal digits
verdict_untold_is_shut_out = apart (λ (r : (ℕ × ℕ) × Page). r.1.1) _ _ 7 15 refl refl (λ e. omega arith)

-- ---- `giachimu_read`: no bytes are refused by 1

pub read_filled_is_shut_out : NoneMeets (read_filled [] (9 ∷ [])) (read_in [] (9 ∷ []))
unfolding read_filled read_in fields_in begins groups up_to_by plain label_by entry_by entries_by body_by head_by sheet_by filled upto list_cell row_cell
read_filled_is_shut_out = apart (λ (r : (ℕ × ℕ) × List ℕ). get_or r.1 0 0) _ _ 0 9 refl refl (λ e. omega arith)

pub read_told_zero_is_shut_out : NoneMeets (told_zero (read_in [] (9 ∷ []))) (read_in [] (9 ∷ []))
unfolding read_in fields_in begins groups up_to_by plain label_by entry_by entries_by body_by head_by sheet_by
read_told_zero_is_shut_out = apart told_number _ _ 0 1 refl refl (λ e. omega arith)

-- ---- `giachimu_label`: sheet C, label a

pub label_swapped_is_shut_out : NoneMeets (label_swapped bytes_c 0 (0, 0)) (label_answer bytes_c 0 (0, 0))
unfolding label_swapped label_answer label_in label_head begins groups up_to_by plain label_by entry_by entries_by body_by head_by sheet_by
label_swapped_is_shut_out = apart (λ (r : (ℕ × ℕ) × (ℕ × ℕ)). r.1.0) _ _ 1 7 refl refl (λ e. omega arith)

-- and there is no row 5
pub label_told_zero_is_shut_out : NoneMeets (told_zero (label_answer bytes_c 5 (0, 0))) (label_answer bytes_c 5 (0, 0))
unfolding label_answer label_in label_head begins groups up_to_by plain label_by entry_by entries_by body_by head_by sheet_by
label_told_zero_is_shut_out = apart told_number _ _ 0 14 refl refl (λ e. omega arith)

-- ---- `giachimu_bounds`: sheet C does not hold

pub bounds_hold_is_shut_out : NoneMeets (bounds_hold list_c (7, 9 ∷ 9 ∷ 9 ∷ 9 ∷ [])) (bounds_in list_c (7, 9 ∷ 9 ∷ 9 ∷ 9 ∷ []))
unfolding bounds_hold bounds_in results_in sheet_in row_in all_of upto legal_row legal_at legal sum q X x W duration_of amount_of amounts room passes least bound_by judge results_to result_of holds bounds_by
bounds_hold_is_shut_out = apart (λ (r : (ℕ × ℕ) × (ℕ × List ℕ)). r.1.0) _ _ 1 0 refl refl (λ e. omega arith)

-- no numbers are no legal sheet
pub bounds_told_zero_is_shut_out : NoneMeets (told_zero (bounds_in [] (7, []))) (bounds_in [] (7, []))
unfolding bounds_in results_in sheet_in row_in all_of upto legal_row legal_at legal bounds_by
bounds_told_zero_is_shut_out = apart told_number _ _ 0 10 refl refl (λ e. omega arith)

-- ---- `giachimu_fresh`

pub fresh_told_zero_is_shut_out : NoneMeets (told_zero (fresh_in [] [])) (fresh_in [] [])
unfolding fresh_in fresh_on fresh sheet_in row_in all_of upto legal_row legal_at legal
fresh_told_zero_is_shut_out = apart told_number _ _ 0 10 refl refl (λ e. omega arith)

pub fresh_list_kept_is_shut_out : NoneMeets (fresh_list_kept list_c (9 ∷ 9 ∷ 9 ∷ 9 ∷ [])) (fresh_in list_c (9 ∷ 9 ∷ 9 ∷ 9 ∷ []))
unfolding fresh_list_kept fresh_in fresh_on fresh states.fresh_state put_state put_to put_record filled sheet_in row_in all_of upto legal_row legal_at legal
fresh_list_kept_is_shut_out = apart (λ (r : (ℕ × ℕ) × List ℕ). get_or r.1 3 0) _ _ 9 4 refl refl (λ e. omega arith)

-- ---- `giachimu_slot`

pub slot_told_zero_is_shut_out : NoneMeets (told_zero (slot_on [] [] [] [])) (slot_on [] [] [] [])
unfolding slot_on slot_in slot check_slot check_state sheet_in row_in all_of upto legal_row legal_at legal
slot_told_zero_is_shut_out = apart told_number _ _ 0 10 refl refl (λ e. omega arith)

-- row 1 is released for 3
pub slot_state_kept_is_shut_out : NoneMeets (slot_state_kept list_c fresh_list_c (1 ∷ 3 ∷ []) (9 ∷ 9 ∷ [])) (slot_on list_c fresh_list_c (1 ∷ 3 ∷ []) (9 ∷ 9 ∷ []))
unfolding slot_state_kept slot_on slot_in state_in zero_from zero_at record_in put_state put_to put_record sheet_in row_in all_of first_of upto legal_row legal_at legal legal_job is_zero_job states.legal_record_at states.legal_state released fits free_below free_at worked older aged missed ended code_of check_row check_releases check_state check_room check_slot given next_state next_codes slot
slot_state_kept_is_shut_out = apart (λ (r : (ℕ × ℕ) × (List ℕ × List ℕ)). get_or r.1.0 2 0) _ _ 0 3 refl refl (λ e. omega arith)

-- ---- `giachimu_run`

pub run_told_zero_is_shut_out : NoneMeets (told_zero (run_on [] [] [] [])) (run_on [] [] [] [])
unfolding run_on run_in course run check_run check_state sheet_in row_in all_of upto legal_row legal_at legal
run_told_zero_is_shut_out = apart told_number _ _ 0 10 refl refl (λ e. omega arith)

pub run_of_one_is_shut_out : NoneMeets (run_of_one [] [] [] []) (run_on [] [] [] [])
unfolding run_of_one run_on run_in course run check_run check_state sheet_in row_in all_of upto legal_row legal_at legal
run_of_one_is_shut_out = apart (λ (r : (ℕ × ℕ) × (ℕ × (List ℕ × List ℕ))). r.1.0) _ _ 1 0 refl refl (λ e. omega arith)

-- ---- `giachimu_margin`: a fresh row has no job

abbrev whole : ℤ → ℕ
whole (pos n) = n
whole (negsuc n) = 99

pub margin_with_job_is_shut_out : NoneMeets (margin_with_job list_c fresh_list_c 0 (7, pos 5)) (margin_in list_c fresh_list_c 0 (7, pos 5))
unfolding margin_with_job margin_in margin_given margin margin_at check_margin state_in zero_from zero_at record_in legal_job is_zero_job states.legal_record_at states.legal_state check_state sheet_in row_in all_of upto legal_row legal_at legal
margin_with_job_is_shut_out = apart (λ (r : (ℕ × ℕ) × (ℕ × ℤ)). r.1.0) _ _ 1 0 refl refl (λ e. omega arith)

pub margin_of_zero_is_shut_out : NoneMeets (margin_of_zero list_c fresh_list_c 0 (7, pos 5)) (margin_in list_c fresh_list_c 0 (7, pos 5))
unfolding margin_of_zero margin_in margin_given margin margin_at check_margin state_in zero_from zero_at record_in legal_job is_zero_job states.legal_record_at states.legal_state check_state sheet_in row_in all_of upto legal_row legal_at legal
margin_of_zero_is_shut_out = apart (λ (r : (ℕ × ℕ) × (ℕ × ℤ)). whole r.1.1) _ _ 0 5 refl refl (λ e. omega arith)
