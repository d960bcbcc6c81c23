-- Wrong rules for a state are shut out: on sheet B, C or F no answer with the fault meets the promise. Assumes nothing.
use Rattle.basis.specs.Prelude.{ℕ, ◌+◌, refl, List, [], ◌∷◌, arith, get_or}
use lib.IntN.{pos, negsuc}
use Rattle.machine.proofs.Names.{all_of, first_of, upto, legal_row, legal_at, legal, filled, row_in, sheet_in, sheet_b, sheet_c, sheet_f, legal_job, is_zero_job, released, fits, free_below, worked, older, aged, missed, ended, code_of, check_row, State, record_at, free_at, check_releases, check_state, check_room, check_slot, check_run, check_margin, FreshAnswer, SlotAnswer, RunAnswer, fresh, given, next_state, next_codes, slot, slot_at, onward, course, run, MarginAnswer, no_job, margin_is, refused_margin, margin_of, margin_at, margin, record_in, zero_at, zero_from, state_in, put_record, put_to, put_state, fresh_on, slot_in, run_in}
use Rattle.basis.specs.Faults.{NoneMeets}
use Rattle.basis.proofs.Faults.{apart, number_of}
use Rattle.records.specs.Wrong.{thirteen_first, stops_at_unfit, missed_first}
use Rattle.machine.specs.States as states
use Rattle.machine.specs.Wrong.{fresh_with_jobs, fresh_too_young, free_to_unfit, slot_to_unfit, slot_of_all, slot_missed_first, slot_untouched, slot_unreleased, slot_codes_always, check_thirteen_first, any_releases, slot_thirteen_first, run_of_first, run_made_up, run_untouched, room_first, any_state, zero_for_none, since_left_out, margin_of_first, fresh_kept, fresh_roomless, slot_list_kept, slot_codes_kept, run_list_kept, run_list_made_up, list_c, fresh_list_c, busy_c}

-- what is read off an answer: a code
abbrev code_after : ℕ → SlotAnswer State → ℕ
code_after k x = get_or x.codes k 0

-- ---- `fresh`

pub fresh_with_jobs_is_shut_out : NoneMeets (fresh_with_jobs sheet_c) (fresh sheet_c)
unfolding fresh_with_jobs fresh states.fresh_state legal legal_at legal_row all_of upto
fresh_with_jobs_is_shut_out = apart (λ (x : FreshAnswer State). (record_at x.state 1).job.remaining) _ _ 3 0 refl refl (λ e. omega arith)

pub fresh_too_young_is_shut_out : NoneMeets (fresh_too_young sheet_c) (fresh sheet_c)
unfolding fresh_too_young fresh states.fresh_state legal legal_at legal_row all_of upto
fresh_too_young_is_shut_out = apart (λ (x : FreshAnswer State). (record_at x.state 1).job.since) _ _ 1 4 refl refl (λ e. omega arith)

-- ---- `slot`

-- case H, the first slot: row 1 does not fit, and row 2 does
pub slot_to_unfit_is_shut_out : NoneMeets (slot_to_unfit sheet_b (fresh sheet_b).state (2 ∷ 2 ∷ 3 ∷ []) (9 ∷ 9 ∷ 9 ∷ [])) (slot sheet_b (fresh sheet_b).state (2 ∷ 2 ∷ 3 ∷ []) (9 ∷ 9 ∷ 9 ∷ []))
unfolding slot_to_unfit free_to_unfit stops_at_unfit all_of first_of upto legal_row legal_at legal states.fresh_state legal_job is_zero_job states.legal_record_at states.legal_state released fits free_below free_at worked older aged missed ended code_of check_row check_releases check_state check_room check_slot fresh given next_state next_codes slot
slot_to_unfit_is_shut_out = apart (code_after 2) _ _ 1 2 refl refl (λ e. omega arith)

-- the same slot: row 1 waits
pub slot_of_all_is_shut_out : NoneMeets (slot_of_all sheet_b (fresh sheet_b).state (2 ∷ 2 ∷ 3 ∷ []) (9 ∷ 9 ∷ 9 ∷ [])) (slot sheet_b (fresh sheet_b).state (2 ∷ 2 ∷ 3 ∷ []) (9 ∷ 9 ∷ 9 ∷ []))
unfolding slot_of_all all_of first_of upto legal_row legal_at legal states.fresh_state legal_job is_zero_job states.legal_record_at states.legal_state released fits free_below free_at worked older aged missed ended code_of check_row check_releases check_state check_room check_slot fresh given next_state next_codes slot
slot_of_all_is_shut_out = apart (code_after 1) _ _ 2 1 refl refl (λ e. omega arith)

-- sheet F: a job finishes in the slot in which since reaches its deadline
pub slot_missed_first_is_shut_out : NoneMeets (slot_missed_first sheet_f (fresh sheet_f).state (1 ∷ []) (9 ∷ [])) (slot sheet_f (fresh sheet_f).state (1 ∷ []) (9 ∷ []))
unfolding slot_missed_first missed_first all_of first_of upto legal_row legal_at legal states.fresh_state legal_job is_zero_job states.legal_record_at states.legal_state released fits free_below free_at worked older aged missed ended code_of check_row check_releases check_state check_room check_slot fresh given next_state next_codes slot
slot_missed_first_is_shut_out = apart (code_after 0) _ _ 4 3 refl refl (λ e. omega arith)

-- case G, the first slot: row 1 is released for 3
pub slot_untouched_is_shut_out : NoneMeets (slot_untouched sheet_c (fresh sheet_c).state (1 ∷ 3 ∷ []) (9 ∷ 9 ∷ [])) (slot sheet_c (fresh sheet_c).state (1 ∷ 3 ∷ []) (9 ∷ 9 ∷ []))
unfolding slot_untouched all_of first_of upto legal_row legal_at legal states.fresh_state legal_job is_zero_job states.legal_record_at states.legal_state released fits free_below free_at worked older aged missed ended code_of check_row check_releases check_state check_room check_slot fresh given next_state next_codes slot
slot_untouched_is_shut_out = apart (λ (x : SlotAnswer State). (record_at x.state 1).job.remaining) _ _ 0 3 refl refl (λ e. omega arith)

pub slot_unreleased_is_shut_out : NoneMeets (slot_unreleased sheet_c (fresh sheet_c).state (1 ∷ 3 ∷ []) (9 ∷ 9 ∷ [])) (slot sheet_c (fresh sheet_c).state (1 ∷ 3 ∷ []) (9 ∷ 9 ∷ []))
unfolding slot_unreleased all_of first_of upto legal_row legal_at legal states.fresh_state legal_job is_zero_job states.legal_record_at states.legal_state released fits free_below free_at worked older aged missed ended code_of check_row check_releases check_state check_room check_slot fresh given next_state next_codes slot
slot_unreleased_is_shut_out = apart (code_after 0) _ _ 0 3 refl refl (λ e. omega arith)

-- a release of 2 in row 0 is over its budget
pub slot_codes_always_is_shut_out : NoneMeets (slot_codes_always sheet_c (fresh sheet_c).state (2 ∷ 0 ∷ []) (9 ∷ 9 ∷ [])) (slot sheet_c (fresh sheet_c).state (2 ∷ 0 ∷ []) (9 ∷ 9 ∷ []))
unfolding slot_codes_always all_of first_of upto legal_row legal_at legal states.fresh_state legal_job is_zero_job states.legal_record_at states.legal_state released fits free_below free_at worked older aged missed ended code_of check_row check_releases check_state check_room check_slot fresh given next_state next_codes slot
slot_codes_always_is_shut_out = apart (code_after 1) _ _ 0 9 refl refl (λ e. omega arith)

-- and one slot after the last it is too soon as well
pub slot_thirteen_first_is_shut_out : NoneMeets (slot_thirteen_first sheet_c busy_c (2 ∷ 0 ∷ []) (9 ∷ 9 ∷ [])) (slot sheet_c busy_c (2 ∷ 0 ∷ []) (9 ∷ 9 ∷ []))
unfolding slot_thirteen_first check_thirteen_first thirteen_first all_of first_of upto legal_row legal_at legal legal_job is_zero_job states.legal_record_at states.legal_state check_row check_releases check_state check_room check_slot slot
slot_thirteen_first_is_shut_out = apart (λ (x : SlotAnswer State). number_of x.outcome) _ _ 13 12 refl refl (λ e. omega arith)

-- ---- `run`

-- the first two slots of case G: row 1 runs in the second
pub run_of_first_is_shut_out : NoneMeets (run_of_first sheet_c (fresh sheet_c).state (1 ∷ 3 ∷ 0 ∷ 0 ∷ []) (9 ∷ 9 ∷ 9 ∷ 9 ∷ [])) (run sheet_c (fresh sheet_c).state (1 ∷ 3 ∷ 0 ∷ 0 ∷ []) (9 ∷ 9 ∷ 9 ∷ 9 ∷ []))
unfolding run_of_first all_of first_of upto legal_row legal_at legal states.fresh_state legal_job is_zero_job states.legal_record_at states.legal_state released fits free_below free_at worked older aged missed ended code_of check_row check_releases check_state check_room check_slot check_run fresh given next_state next_codes slot slot_at onward course run
run_of_first_is_shut_out = apart (λ (c : RunAnswer State). get_or c.codes 3 0) _ _ 9 2 refl refl (λ e. omega arith)

-- a second release of row 0, one slot after the first, is refused
pub run_made_up_is_shut_out : NoneMeets (run_made_up sheet_c (fresh sheet_c).state (1 ∷ 0 ∷ 1 ∷ 0 ∷ []) (9 ∷ 9 ∷ 9 ∷ 9 ∷ [])) (run sheet_c (fresh sheet_c).state (1 ∷ 0 ∷ 1 ∷ 0 ∷ []) (9 ∷ 9 ∷ 9 ∷ 9 ∷ []))
unfolding run_made_up all_of first_of upto legal_row legal_at legal states.fresh_state legal_job is_zero_job states.legal_record_at states.legal_state released fits free_below free_at worked older aged missed ended code_of check_row check_releases check_state check_room check_slot check_run fresh given next_state next_codes slot slot_at onward course run
run_made_up_is_shut_out = apart (λ (c : RunAnswer State). c.done) _ _ 2 1 refl refl (λ e. omega arith)

pub run_untouched_is_shut_out : NoneMeets (run_untouched sheet_c (fresh sheet_c).state (1 ∷ 3 ∷ 0 ∷ 0 ∷ []) (9 ∷ 9 ∷ 9 ∷ 9 ∷ [])) (run sheet_c (fresh sheet_c).state (1 ∷ 3 ∷ 0 ∷ 0 ∷ []) (9 ∷ 9 ∷ 9 ∷ 9 ∷ []))
unfolding run_untouched all_of first_of upto legal_row legal_at legal states.fresh_state legal_job is_zero_job states.legal_record_at states.legal_state released fits free_below free_at worked older aged missed ended code_of check_row check_releases check_state check_room check_slot check_run fresh given next_state next_codes slot slot_at onward course run
run_untouched_is_shut_out = apart (λ (c : RunAnswer State). (record_at c.state 1).job.remaining) _ _ 0 2 refl refl (λ e. omega arith)

-- ---- the checks of a slot

pub check_thirteen_first_is_shut_out : NoneMeets (check_thirteen_first sheet_c busy_c (2 ∷ 0 ∷ []) 2) (check_slot sheet_c busy_c (2 ∷ 0 ∷ []) 2)
unfolding check_thirteen_first thirteen_first all_of first_of upto legal_row legal_at legal legal_job is_zero_job states.legal_record_at states.legal_state check_row check_releases check_state check_room check_slot
check_thirteen_first_is_shut_out = apart number_of _ _ 13 12 refl refl (λ e. omega arith)

pub any_releases_is_shut_out : NoneMeets (any_releases sheet_c busy_c (2 ∷ 0 ∷ []) 2) (check_slot sheet_c busy_c (2 ∷ 0 ∷ []) 2)
unfolding any_releases all_of first_of upto legal_row legal_at legal legal_job is_zero_job states.legal_record_at states.legal_state check_row check_releases check_state check_room check_slot
any_releases_is_shut_out = apart number_of _ _ 0 12 refl refl (λ e. omega arith)

-- ---- the checks of a run

-- a list of three entries for two rows, and room for none
pub room_first_is_shut_out : NoneMeets (room_first sheet_c (fresh sheet_c).state (0 ∷ 0 ∷ 0 ∷ []) 0) (check_run sheet_c (fresh sheet_c).state (0 ∷ 0 ∷ 0 ∷ []) 0)
unfolding room_first all_of upto legal_row legal_at legal states.fresh_state legal_job is_zero_job states.legal_record_at states.legal_state check_state check_room check_run fresh
room_first_is_shut_out = apart number_of _ _ 15 11 refl refl (λ e. omega arith)

-- the state of zeros is legal for no sheet
pub any_state_is_shut_out : NoneMeets (any_state sheet_c states.no_state [] 0) (check_run sheet_c states.no_state [] 0)
unfolding any_state all_of upto legal_row legal_at legal legal_job is_zero_job states.legal_record_at states.legal_state check_state check_room check_run
any_state_is_shut_out = apart number_of _ _ 0 16 refl refl (λ e. omega arith)

-- ---- the margin

-- 0 for no job, one more than a margin that is not negative, and 99 else
abbrev margin_read : MarginAnswer → ℕ
margin_read no_job = 0
margin_read (margin_is (pos n)) = 1 + n
margin_read (margin_is (negsuc n)) = 99
margin_read (refused_margin number place) = 99

pub zero_for_none_is_shut_out : NoneMeets (zero_for_none sheet_c (fresh sheet_c).state 0) (margin sheet_c (fresh sheet_c).state 0)
unfolding zero_for_none all_of upto legal_row legal_at legal states.fresh_state legal_job is_zero_job states.legal_record_at states.legal_state check_state check_margin fresh margin_at margin_of margin
zero_for_none_is_shut_out = apart margin_read _ _ 1 0 refl refl (λ e. omega arith)

-- row 1 has a margin of 4 - 1 - 2
pub since_left_out_is_shut_out : NoneMeets (since_left_out sheet_c busy_c 1) (margin sheet_c busy_c 1)
unfolding since_left_out all_of upto legal_row legal_at legal legal_job is_zero_job states.legal_record_at states.legal_state check_state check_margin margin_at margin_of margin
since_left_out_is_shut_out = apart margin_read _ _ 3 2 refl refl (λ e. omega arith)

pub margin_of_first_is_shut_out : NoneMeets (margin_of_first sheet_c busy_c 1) (margin sheet_c busy_c 1)
unfolding margin_of_first all_of upto legal_row legal_at legal legal_job is_zero_job states.legal_record_at states.legal_state check_state check_margin margin_at margin_of margin
margin_of_first_is_shut_out = apart margin_read _ _ 0 2 refl refl (λ e. omega arith)

-- ---- `fresh_on`

pub fresh_kept_is_shut_out : NoneMeets (fresh_kept (sheet_in list_c) (9 ∷ 9 ∷ 9 ∷ 9 ∷ [])) (fresh_on (sheet_in list_c) (9 ∷ 9 ∷ 9 ∷ 9 ∷ []))
unfolding fresh_kept fresh_on fresh states.fresh_state put_state put_to put_record filled sheet_in row_in legal legal_at legal_row all_of upto
fresh_kept_is_shut_out = apart (λ (x : FreshAnswer (List ℕ)). get_or x.state 3 0) _ _ 9 4 refl refl (λ e. omega arith)

-- three places do not do for two records
pub fresh_roomless_is_shut_out : NoneMeets (fresh_roomless (sheet_in list_c) (9 ∷ 9 ∷ 9 ∷ [])) (fresh_on (sheet_in list_c) (9 ∷ 9 ∷ 9 ∷ []))
unfolding fresh_roomless fresh_on fresh states.fresh_state put_state put_to put_record filled sheet_in row_in legal legal_at legal_row all_of upto
fresh_roomless_is_shut_out = apart (λ (x : FreshAnswer (List ℕ)). number_of x.outcome) _ _ 0 15 refl refl (λ e. omega arith)

-- ---- `slot_on`

pub slot_list_kept_is_shut_out : NoneMeets (slot_list_kept (sheet_in list_c) fresh_list_c (1 ∷ 3 ∷ []) (9 ∷ 9 ∷ [])) (slot_in (sheet_in list_c) fresh_list_c (1 ∷ 3 ∷ []) (9 ∷ 9 ∷ []))
unfolding slot_list_kept slot_in state_in zero_from zero_at record_in put_state put_to put_record sheet_in row_in all_of first_of upto legal_row legal_at legal legal_job is_zero_job states.legal_record_at states.legal_state released fits free_below free_at worked older aged missed ended code_of check_row check_releases check_state check_room check_slot given next_state next_codes slot
slot_list_kept_is_shut_out = apart (λ (x : SlotAnswer (List ℕ)). get_or x.state 2 0) _ _ 0 3 refl refl (λ e. omega arith)

pub slot_codes_kept_is_shut_out : NoneMeets (slot_codes_kept (sheet_in list_c) fresh_list_c (1 ∷ 3 ∷ []) (9 ∷ 9 ∷ [])) (slot_in (sheet_in list_c) fresh_list_c (1 ∷ 3 ∷ []) (9 ∷ 9 ∷ []))
unfolding slot_codes_kept slot_in state_in zero_from zero_at record_in put_state put_to put_record sheet_in row_in all_of first_of upto legal_row legal_at legal legal_job is_zero_job states.legal_record_at states.legal_state released fits free_below free_at worked older aged missed ended code_of check_row check_releases check_state check_room check_slot given next_state next_codes slot
slot_codes_kept_is_shut_out = apart (λ (x : SlotAnswer (List ℕ)). get_or x.codes 0 0) _ _ 9 3 refl refl (λ e. omega arith)

-- ---- `run_on`

pub run_list_kept_is_shut_out : NoneMeets (run_list_kept (sheet_in list_c) fresh_list_c (1 ∷ 3 ∷ []) (9 ∷ 9 ∷ [])) (run_in (sheet_in list_c) fresh_list_c (1 ∷ 3 ∷ []) (9 ∷ 9 ∷ []))
unfolding run_list_kept run_in state_in zero_from zero_at record_in put_state put_to put_record sheet_in row_in all_of first_of upto legal_row legal_at legal legal_job is_zero_job states.legal_record_at states.legal_state released fits free_below free_at worked older aged missed ended code_of check_row check_releases check_state check_room check_slot check_run given next_state next_codes slot slot_at onward course run
run_list_kept_is_shut_out = apart (λ (x : RunAnswer (List ℕ)). get_or x.state 2 0) _ _ 0 3 refl refl (λ e. omega arith)

pub run_list_made_up_is_shut_out : NoneMeets (run_list_made_up (sheet_in list_c) fresh_list_c (1 ∷ 0 ∷ 1 ∷ 0 ∷ []) (9 ∷ 9 ∷ 9 ∷ 9 ∷ [])) (run_in (sheet_in list_c) fresh_list_c (1 ∷ 0 ∷ 1 ∷ 0 ∷ []) (9 ∷ 9 ∷ 9 ∷ 9 ∷ []))
unfolding run_list_made_up run_in state_in zero_from zero_at record_in put_state put_to put_record sheet_in row_in all_of first_of upto legal_row legal_at legal legal_job is_zero_job states.legal_record_at states.legal_state released fits free_below free_at worked older aged missed ended code_of check_row check_releases check_state check_room check_slot check_run given next_state next_codes slot slot_at onward course run
run_list_made_up_is_shut_out = apart (λ (x : RunAnswer (List ℕ)). x.done) _ _ 2 1 refl refl (λ e. omega arith)
