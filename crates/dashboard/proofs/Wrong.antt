-- No text by a wrong rule meets the promise of `write_verdict` or of `write_reference`, and no other buffer that of the programs' two. Assumes nothing.
use Rattle.basis.specs.Prelude.{ℕ, refl, List, length, get_or}
use Rattle.dashboard.proofs.Names.{all_of, sum, begins, groups, up_to_by, spelt, width, plain, label_by, entry_by, entries_by, body_by, head_by, sheet_by, label_head, label_in, longest_row, longest_sheet, q, X, x, W, duration_of, amount_of, amounts, room, passes, least, bound_by, judge, results_to, result_of, holds, fixed_sheet, digits, decimal, result_words, line_start, line, refused_by, no_verdict, own_label, numbered, lines, board, verdict_text, section, sections, reference_text, Page, written, input_size, input_buffer, text_buffer}
use Rattle.basis.specs.Faults.{NoneMeets}
use Rattle.basis.proofs.Faults.{values_apart}
use Rattle.dashboard.specs.Wrong.{board_by, text_by, always_holds, place_zero, refused_is_empty, first_label_again, digit_lost, short_bounds, last_row_lost, same_section, same_sections, sheet_a_each_time, sheet_left_out, input_of_ones, text_of_ones, input_too_small, text_too_small, sheet_c_bytes, blank_c_bytes, forty, four_hundred}

-- HOLDS for every sheet: sheet C fails
pub always_holds_is_shut_out : NoneMeets (written (always_holds sheet_c_bytes) forty) (written (verdict_text sheet_c_bytes) forty)
unfolding always_holds text_by board_by written all_of sum begins groups up_to_by plain label_by entry_by entries_by body_by head_by sheet_by label_head label_in q X x W duration_of amount_of amounts room passes least bound_by judge results_to result_of holds digits decimal result_words line_start line own_label lines board verdict_text
always_holds_is_shut_out = values_apart _ _ (λ (p : Page). get_or p.0 29 0) refl

-- the first label again: sheet C's second row is trim
pub first_label_again_is_shut_out : NoneMeets (written (first_label_again sheet_c_bytes) forty) (written (verdict_text sheet_c_bytes) forty)
unfolding first_label_again text_by board_by written all_of sum begins groups up_to_by plain label_by entry_by entries_by body_by head_by sheet_by label_head label_in q X x W duration_of amount_of amounts room passes least bound_by judge results_to result_of holds digits decimal result_words line_start line own_label lines board verdict_text
first_label_again_is_shut_out = values_apart _ _ (λ (p : Page). get_or p.0 17 0) refl

-- the last digit lost: sheet C's first bound, 1, would be 0
pub short_bounds_is_shut_out : NoneMeets (written (short_bounds sheet_c_bytes) forty) (written (verdict_text sheet_c_bytes) forty)
unfolding short_bounds digit_lost text_by board_by written all_of sum begins groups up_to_by plain label_by entry_by entries_by body_by head_by sheet_by label_head label_in q X x W duration_of amount_of amounts room passes least bound_by judge results_to result_of holds digits decimal result_words line_start line own_label lines board verdict_text
short_bounds_is_shut_out = values_apart _ _ (λ (p : Page). get_or p.0 13 0) refl

-- the last row lost: the text of sheet C has 35 bytes
pub last_row_lost_is_shut_out : NoneMeets (written (last_row_lost sheet_c_bytes) forty) (written (verdict_text sheet_c_bytes) forty)
unfolding last_row_lost text_by written all_of sum begins groups up_to_by plain label_by entry_by entries_by body_by head_by sheet_by label_head label_in q X x W duration_of amount_of amounts room passes least bound_by judge results_to result_of holds digits decimal result_words line_start line own_label lines board verdict_text
last_row_lost_is_shut_out = values_apart _ _ (λ (p : Page). p.1) refl

-- the place of a refusal lost: sheet C with a blank is refused at 23
pub place_zero_is_shut_out : NoneMeets (written (place_zero blank_c_bytes) forty) (written (verdict_text blank_c_bytes) forty)
unfolding place_zero text_by written begins groups up_to_by plain label_by entry_by entries_by body_by head_by sheet_by digits decimal refused_by no_verdict verdict_text
place_zero_is_shut_out = values_apart _ _ (λ (p : Page). p.1) refl

-- a refused sheet that holds: sheet C with a blank has no verdict
pub refused_is_empty_is_shut_out : NoneMeets (written (refused_is_empty blank_c_bytes) forty) (written (verdict_text blank_c_bytes) forty)
unfolding refused_is_empty text_by written begins groups up_to_by plain label_by entry_by entries_by body_by head_by sheet_by digits decimal refused_by no_verdict verdict_text
refused_is_empty_is_shut_out = values_apart _ _ (λ (p : Page). p.1) refl

-- sheet A each time: the reference would be of another length
pub sheet_a_each_time_is_shut_out : NoneMeets (written sheet_a_each_time four_hundred) (written reference_text four_hundred)
unfolding sheet_a_each_time same_sections same_section written all_of sum q X x W duration_of amount_of amounts room passes least bound_by judge results_to result_of holds fixed_sheet digits decimal result_words line_start line numbered lines board section sections reference_text
sheet_a_each_time_is_shut_out = values_apart _ _ (λ (p : Page). p.1) refl

-- sheet E left out
pub sheet_left_out_is_shut_out : NoneMeets (written sheet_left_out four_hundred) (written reference_text four_hundred)
unfolding sheet_left_out written all_of sum q X x W duration_of amount_of amounts room passes least bound_by judge results_to result_of holds fixed_sheet digits decimal result_words line_start line numbered lines board section sections reference_text
sheet_left_out_is_shut_out = values_apart _ _ (λ (p : Page). p.1) refl

-- a buffer that is not zero
pub input_of_ones_is_shut_out : NoneMeets input_of_ones input_buffer
unfolding input_of_ones input_size longest_sheet longest_row width spelt
input_of_ones_is_shut_out = values_apart _ _ (λ (l : List ℕ). get_or l 0 0) refl

pub text_of_ones_is_shut_out : NoneMeets text_of_ones text_buffer
unfolding text_of_ones
text_of_ones_is_shut_out = values_apart _ _ (λ (l : List ℕ). get_or l 0 0) refl

-- a buffer that is too small
pub input_too_small_is_shut_out : NoneMeets input_too_small input_buffer
unfolding input_too_small input_size longest_sheet longest_row width spelt
input_too_small_is_shut_out = values_apart _ _ length refl

pub text_too_small_is_shut_out : NoneMeets text_too_small text_buffer
unfolding text_too_small
text_too_small_is_shut_out = values_apart _ _ length refl
