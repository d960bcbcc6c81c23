-- No line by a wrong rule meets the promise of `play_slot`, `write_end` or `write_refused`, and no other buffer that of `line_buffer`. Assumes nothing.
use Rattle.basis.specs.Prelude.{ℕ, refl, List, [], ◌∷◌, length, get_or}
use Rattle.watch.proofs.Names.{all_of, first_of, upto, legal_row, legal_at, legal, row_in, sheet_in, legal_job, is_zero_job, released, fits, free_below, worked, older, aged, missed, ended, code_of, free_at, check_row, check_releases, check_state, check_room, check_slot, given, next_state, next_codes, slot, record_in, zero_at, zero_from, state_in, put_record, put_to, put_state, slot_in, digits, decimal, codes_text, slot_line, end_line, slot_number, refused_by, refused_slot, file_name, refused_file, line_of, PlayAnswer, played_slot, Page, written, line_buffer}
use Rattle.basis.specs.Faults.{NoneMeets}
use Rattle.basis.proofs.Faults.{values_apart}
use Rattle.machine.specs.States as states
use Rattle.machine.specs.Wrong.{list_c, fresh_list_c}
use Rattle.watch.specs.declared.ends.File.TheVariants.{Sheet, Scenario}
use Rattle.watch.specs.Wrong.{refused_is_empty, row_zero, codes_before, last_code_lost, slots_from_one, state_kept, last_slot, no_number, place_first, other_file, line_of_ones, line_too_small, early_list_c, thirty}

-- ---- `play_slot`

-- a release of row 1 too soon is refused, not empty
pub refused_is_empty_is_shut_out : NoneMeets (refused_is_empty (sheet_in list_c) early_list_c (0 ∷ 1 ∷ []) 3 thirty) (played_slot (sheet_in list_c) early_list_c (0 ∷ 1 ∷ []) 3 thirty)
unfolding refused_is_empty slot_in state_in zero_from zero_at record_in put_state put_to put_record sheet_in row_in all_of first_of upto legal_row legal_at legal legal_job is_zero_job states.legal_record_at states.legal_state released fits free_below free_at worked older aged missed ended code_of check_row check_releases check_state check_room check_slot given next_state next_codes slot digits decimal codes_text slot_line slot_number refused_by refused_slot line_of played_slot written
refused_is_empty_is_shut_out = values_apart _ _ (λ (p : PlayAnswer). p.long) refl

-- and the row is 1
pub row_zero_is_shut_out : NoneMeets (row_zero (sheet_in list_c) early_list_c (0 ∷ 1 ∷ []) 3 thirty) (played_slot (sheet_in list_c) early_list_c (0 ∷ 1 ∷ []) 3 thirty)
unfolding row_zero slot_in state_in zero_from zero_at record_in put_state put_to put_record sheet_in row_in all_of first_of upto legal_row legal_at legal legal_job is_zero_job states.legal_record_at states.legal_state released fits free_below free_at worked older aged missed ended code_of check_row check_releases check_state check_room check_slot given next_state next_codes slot digits decimal codes_text slot_line slot_number refused_by refused_slot line_of played_slot written
row_zero_is_shut_out = values_apart _ _ (λ (p : PlayAnswer). get_or p.text 18 0) refl

-- case G, the first slot: the codes are 3 and 1
pub codes_before_is_shut_out : NoneMeets (codes_before (sheet_in list_c) fresh_list_c (1 ∷ 3 ∷ []) 3 thirty) (played_slot (sheet_in list_c) fresh_list_c (1 ∷ 3 ∷ []) 3 thirty)
unfolding codes_before slot_in state_in zero_from zero_at record_in put_state put_to put_record sheet_in row_in all_of first_of upto legal_row legal_at legal legal_job is_zero_job states.legal_record_at states.legal_state released fits free_below free_at worked older aged missed ended code_of check_row check_releases check_state check_room check_slot given next_state next_codes slot digits decimal codes_text slot_line slot_number refused_by refused_slot line_of played_slot written
codes_before_is_shut_out = values_apart _ _ (λ (p : PlayAnswer). get_or p.text 2 0) refl

-- the same slot: there are two of them
pub last_code_lost_is_shut_out : NoneMeets (last_code_lost (sheet_in list_c) fresh_list_c (1 ∷ 3 ∷ []) 3 thirty) (played_slot (sheet_in list_c) fresh_list_c (1 ∷ 3 ∷ []) 3 thirty)
unfolding last_code_lost slot_in state_in zero_from zero_at record_in put_state put_to put_record sheet_in row_in all_of first_of upto legal_row legal_at legal legal_job is_zero_job states.legal_record_at states.legal_state released fits free_below free_at worked older aged missed ended code_of check_row check_releases check_state check_room check_slot given next_state next_codes slot digits decimal codes_text slot_line slot_number refused_by refused_slot line_of played_slot written
last_code_lost_is_shut_out = values_apart _ _ (λ (p : PlayAnswer). p.long) refl

-- the same slot, as slot 3
pub slots_from_one_is_shut_out : NoneMeets (slots_from_one (sheet_in list_c) fresh_list_c (1 ∷ 3 ∷ []) 3 thirty) (played_slot (sheet_in list_c) fresh_list_c (1 ∷ 3 ∷ []) 3 thirty)
unfolding slots_from_one slot_in state_in zero_from zero_at record_in put_state put_to put_record sheet_in row_in all_of first_of upto legal_row legal_at legal legal_job is_zero_job states.legal_record_at states.legal_state released fits free_below free_at worked older aged missed ended code_of check_row check_releases check_state check_room check_slot given next_state next_codes slot digits decimal codes_text slot_line slot_number refused_by refused_slot line_of played_slot written
slots_from_one_is_shut_out = values_apart _ _ (λ (p : PlayAnswer). get_or p.text 0 0) refl

-- the same slot: row 1 is released for 3
pub state_kept_is_shut_out : NoneMeets (state_kept (sheet_in list_c) fresh_list_c (1 ∷ 3 ∷ []) 3 thirty) (played_slot (sheet_in list_c) fresh_list_c (1 ∷ 3 ∷ []) 3 thirty)
unfolding state_kept slot_in state_in zero_from zero_at record_in put_state put_to put_record sheet_in row_in all_of first_of upto legal_row legal_at legal legal_job is_zero_job states.legal_record_at states.legal_state released fits free_below free_at worked older aged missed ended code_of check_row check_releases check_state check_room check_slot given next_state next_codes slot digits decimal codes_text slot_line slot_number refused_by refused_slot line_of played_slot written
state_kept_is_shut_out = values_apart _ _ (λ (p : PlayAnswer). get_or p.state 2 0) refl

-- ---- `write_end`

-- four slots were done, and the last was slot 3
pub last_slot_is_shut_out : NoneMeets (written (last_slot 4) thirty) (written (end_line 4) thirty)
unfolding last_slot written end_line decimal digits
last_slot_is_shut_out = values_apart _ _ (λ (p : Page). get_or p.0 6 0) refl

pub no_number_is_shut_out : NoneMeets (written (no_number 4) thirty) (written (end_line 4) thirty)
unfolding no_number written end_line decimal digits
no_number_is_shut_out = values_apart _ _ (λ (p : Page). p.1) refl

-- ---- `write_refused`

-- 20 at place 7
pub place_first_is_shut_out : NoneMeets (written (place_first Scenario 20 7) thirty) (written (refused_file Scenario 20 7) thirty)
unfolding place_first written refused_file refused_by file_name decimal digits
place_first_is_shut_out = values_apart _ _ (λ (p : Page). get_or p.0 8 0) refl

pub other_file_is_shut_out : NoneMeets (written (other_file Sheet 1 0) thirty) (written (refused_file Sheet 1 0) thirty)
unfolding other_file written refused_file refused_by file_name decimal digits
other_file_is_shut_out = values_apart _ _ (λ (p : Page). p.1) refl

-- ---- `line_buffer`

pub line_of_ones_is_shut_out : NoneMeets line_of_ones line_buffer
unfolding line_of_ones
line_of_ones_is_shut_out = values_apart _ _ (λ (l : List ℕ). get_or l 0 0) refl

pub line_too_small_is_shut_out : NoneMeets line_too_small line_buffer
unfolding line_too_small
line_too_small_is_shut_out = values_apart _ _ length refl
