-- No answer by a wrong rule of the further calls meets their promises; that of `giachimu_legal` is that of `sheet::is_legal`, and so are its wrong answers. Assumes nothing.
use Rattle.basis.specs.Prelude.{ℕ, refl, List, get_or}
use Rattle.exports.proofs.Names.{all_of, first_of, upto, pair_cell, NoneMeets, values_apart, groups, up_to_by, legal, legal_at, legal_row, filled, row_in, sheet_in, row_cell, list_cell, fixed_sheet, legal_job, is_zero_job, released, fits, free_below, worked, older, aged, missed, ended, code_of, check_row, fresh_state, legal_state, free_at, check_releases, check_state, check_room, check_slot, check_run, fresh, given, next_state, next_codes, slot, slot_at, onward, course, run, fields_in, step_told, number_on, up_to_on, fixed_in, box_of, box_on}
use Rattle.machine.specs.States as states
use Rattle.exports.specs.WrongFurther.{NumberTold, swapped, not_told, zeros_written, eight_and_seven, sheet_a_always, list_cut_off, BoxTold, all_counted, state_kept, two_groups, zero_last, sevens, two_places, list_c, too_soon, four_places}

-- value and place swapped: 80 01 would be 2
pub swapped_is_shut_out : NoneMeets (swapped (number_on two_groups 0 sevens)) (number_on two_groups 0 sevens)
unfolding swapped number_on step_told groups
swapped_is_shut_out = values_apart _ _ (λ (r : NumberTold). r.1.0) refl

-- zeros beside a refusal: 80 00 leaves what was lent
pub zeros_written_is_shut_out : NoneMeets (zeros_written (number_on zero_last 0 sevens)) (number_on zero_last 0 sevens)
unfolding zeros_written number_on step_told groups
zeros_written_is_shut_out = values_apart _ _ (λ (r : NumberTold). r.1.0) refl

-- no refusal told: 80 01 is over 5
pub not_told_is_shut_out : NoneMeets (not_told (up_to_on two_groups 0 5 sevens)) (up_to_on two_groups 0 5 sevens)
unfolding not_told up_to_on step_told up_to_by groups
not_told_is_shut_out = values_apart _ _ (λ (r : NumberTold). r.0.0) refl

-- 8 and 7 for 7 and 8: 80 01 is over 5 by 8
pub eight_and_seven_is_shut_out : NoneMeets (eight_and_seven two_groups 0 5 sevens) (up_to_on two_groups 0 5 sevens)
unfolding eight_and_seven up_to_on step_told up_to_by groups
eight_and_seven_is_shut_out = values_apart _ _ (λ (r : NumberTold). r.0.0) refl

-- sheet A for every number: sheet C is on two processors
pub sheet_a_always_is_shut_out : NoneMeets (sheet_a_always 2 list_c) (fixed_in 2 list_c)
unfolding sheet_a_always fixed_in fields_in fixed_sheet filled upto list_cell row_cell
sheet_a_always_is_shut_out = values_apart _ _ (λ (r : (ℕ × ℕ) × List ℕ). get_or r.1 0 0) refl

-- a sheet cut off: sheet C has no room in two places
pub cut_off_is_shut_out : NoneMeets (list_cut_off 2 two_places) (fixed_in 2 two_places)
unfolding list_cut_off fixed_in fields_in fixed_sheet filled upto list_cell row_cell
cut_off_is_shut_out = values_apart _ _ (λ (r : (ℕ × ℕ) × List ℕ). r.0.0) refl

-- every slot counted: the second slot of sheet C is refused, so that one is done
pub all_counted_is_shut_out : NoneMeets (all_counted list_c too_soon (box_on list_c four_places too_soon four_places)) (box_on list_c four_places too_soon four_places)
unfolding all_counted box_on box_of sheet_in row_in fresh given next_state next_codes slot slot_at onward course run check_row check_releases check_state check_room check_slot check_run released fits free_below free_at worked older aged missed ended code_of fresh_state legal_state legal_job is_zero_job states.legal_record_at legal legal_at legal_row first_of upto all_of
all_counted_is_shut_out = values_apart _ _ (λ (r : BoxTold). r.1.0) refl

-- the state kept: three slots remain of the second row's job
pub state_kept_is_shut_out : NoneMeets (state_kept four_places (box_on list_c four_places too_soon four_places)) (box_on list_c four_places too_soon four_places)
unfolding state_kept filled pair_cell box_on box_of sheet_in row_in fresh given next_state next_codes slot slot_at onward course run check_row check_releases check_state check_room check_slot check_run released fits free_below free_at worked older aged missed ended code_of fresh_state legal_state legal_job is_zero_job states.legal_record_at legal legal_at legal_row first_of upto all_of
state_kept_is_shut_out = values_apart _ _ (λ (r : BoxTold). get_or r.1.1.0 2 0) refl
