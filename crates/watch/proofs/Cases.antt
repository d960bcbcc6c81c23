-- The worked texts hold of the definitions. Assumes nothing.
use Rattle.basis.specs.Prelude.{refl}
use Rattle.watch.proofs.Names.{all_of, first_of, upto, legal_row, legal_at, legal, fixed_sheet, legal_job, is_zero_job, released, fits, free_below, worked, older, aged, missed, ended, code_of, free_at, check_row, check_releases, check_state, check_room, check_slot, fresh, given, next_state, next_codes, slot, digits, decimal, codes_text, slot_line, end_line, slot_number, refused_by, refused_slot, line_of, run_text}
use Rattle.machine.specs.States as states
use Rattle.watch.specs.Cases.{run_g, run_h, too_soon, RightText}

-- case G
pub text_of_G : RightText run_g
unfolding fixed_sheet all_of first_of upto legal_row legal_at legal states.fresh_state legal_job is_zero_job states.legal_record_at states.legal_state released fits free_below free_at worked older aged missed ended code_of check_row check_releases check_state check_room check_slot fresh given next_state next_codes slot digits decimal codes_text slot_line end_line slot_number refused_by refused_slot line_of run_text
text_of_G = refl

-- case H
pub text_of_H : RightText run_h
unfolding fixed_sheet all_of first_of upto legal_row legal_at legal states.fresh_state legal_job is_zero_job states.legal_record_at states.legal_state released fits free_below free_at worked older aged missed ended code_of check_row check_releases check_state check_room check_slot fresh given next_state next_codes slot digits decimal codes_text slot_line end_line slot_number refused_by refused_slot line_of run_text
text_of_H = refl

-- a release too soon is refused by 13
pub text_of_too_soon : RightText too_soon
unfolding fixed_sheet all_of first_of upto legal_row legal_at legal states.fresh_state legal_job is_zero_job states.legal_record_at states.legal_state released fits free_below free_at worked older aged missed ended code_of check_row check_releases check_state check_room check_slot fresh given next_state next_codes slot digits decimal codes_text slot_line end_line slot_number refused_by refused_slot line_of run_text
text_of_too_soon = refl
