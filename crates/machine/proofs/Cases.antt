-- Cases G and H hold of the definitions: a run from fresh gives these codes, with nothing refused. Assumes nothing.
use Rattle.basis.specs.Prelude.{refl}
use Rattle.machine.proofs.Names.{all_of, first_of, upto, legal_row, legal_at, legal, fixed_sheet, legal_job, is_zero_job, released, fits, free_below, worked, older, aged, missed, ended, code_of, free_at, check_row, check_releases, check_state, check_room, check_slot, check_run, fresh, given, next_state, next_codes, slot, slot_at, onward, course, run}
use Rattle.machine.specs.Cases.{case_g, case_h, RightRun}
use Rattle.machine.specs.States as states

pub case_G : RightRun case_g
unfolding fixed_sheet all_of first_of upto legal_row legal_at legal states.fresh_state legal_job is_zero_job states.legal_record_at states.legal_state released fits free_below free_at worked older aged missed ended code_of check_row check_releases check_state check_room check_slot check_run fresh given next_state next_codes slot slot_at onward course run
case_G = (refl, refl, refl)

pub case_H : RightRun case_h
unfolding fixed_sheet all_of first_of upto legal_row legal_at legal states.fresh_state legal_job is_zero_job states.legal_record_at states.legal_state released fits free_below free_at worked older aged missed ended code_of check_row check_releases check_state check_room check_slot check_run fresh given next_state next_codes slot slot_at onward course run
case_H = (refl, refl, refl)
