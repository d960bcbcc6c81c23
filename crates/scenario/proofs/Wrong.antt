-- No answer by a wrong rule of a scenario meets the promise of a function of this crate. Assumes nothing.
use Rattle.basis.specs.Prelude.{ℕ, refl, [], ◌++◌, get_or}
use Rattle.scenario.proofs.Names.{most_rows, begins, first_of, all_of, groups, spelt, up_to_by, Answer, FoundSlot, slot_handed, found_told, check_list, check_whole, over_at, over_budget, read_scenario, read_slot, write_scenario, two_rows, mark_bytes, no_releases, releases, row, scenario, slot, slots, releases_bytes, releases_in, scenario_bytes, slot_bytes, slots_bytes, legal, legal_at, legal_row}
use Rattle.basis.specs.Faults.{NoAnswer}
use Rattle.basis.proofs.Faults.{number_of, told_apart}
use Rattle.scenario.specs.Wrong.{read_answer, written_answer, releases_by, repeated_row, from_zero, zero_count, in_order, order_first, slots_by, read_by, fifteen_first, past_cleared, slot_short, slots_short, one_short, row_twice, zero_slot, no_such_row, empty_slot, both_rows, over_row, three_nines, twelve_nines}

-- what is read off an answer: the number of its refusal, and an entry or a byte of what was lent
slot_number : FoundSlot → ℕ
slot_number a = number_of a.outcome

answer_number : Answer → ℕ
answer_number a = number_of a.outcome

lent_at : ℕ → Answer → ℕ
lent_at i a = get_or a.lent i 0

-- ---- `read_slot`

-- a repeated row accepted: row 1 twice is 20
pub repeated_row_is_shut_out : NoAnswer found_told (slot_handed (repeated_row two_rows (no_releases most_rows) row_twice 0)) (read_slot two_rows row_twice 0)
unfolding slot_number repeated_row releases_by read_slot slot releases row up_to_by groups legal legal_at legal_row all_of
repeated_row_is_shut_out = told_apart found_told _ _ slot_number refl

-- a count of zero accepted: it is 12
pub zero_count_is_shut_out : NoAnswer found_told (slot_handed (zero_count two_rows (no_releases most_rows) zero_slot 0)) (read_slot two_rows zero_slot 0)
unfolding slot_number zero_count from_zero releases_by read_slot slot releases row up_to_by groups legal legal_at legal_row all_of
zero_count_is_shut_out = told_apart found_told _ _ slot_number refl

-- 20 before 14: row 2 is met first, and the order after it
pub order_first_is_shut_out : NoAnswer found_told (slot_handed (order_first two_rows (no_releases most_rows) no_such_row 0)) (read_slot two_rows no_such_row 0)
unfolding slot_number order_first in_order read_slot slot releases row up_to_by groups legal legal_at legal_row all_of
order_first_is_shut_out = told_apart found_told _ _ slot_number refl

-- ---- `read_scenario`

-- a repeated row, and a count of zero, read into a list
pub repeated_row_read_is_shut_out : NoAnswer read_answer (read_by repeated_row two_rows (mark_bytes ++ row_twice) three_nines) (read_scenario two_rows (mark_bytes ++ row_twice) three_nines)
unfolding answer_number read_by slots_by repeated_row releases_by read_scenario scenario slots slot releases row up_to_by groups begins legal legal_at legal_row all_of
repeated_row_read_is_shut_out = told_apart read_answer _ _ answer_number refl

pub zero_count_read_is_shut_out : NoAnswer read_answer (read_by zero_count two_rows (mark_bytes ++ zero_slot) three_nines) (read_scenario two_rows (mark_bytes ++ zero_slot) three_nines)
unfolding answer_number read_by slots_by zero_count from_zero releases_by read_scenario scenario slots slot releases row up_to_by groups begins legal legal_at legal_row all_of
zero_count_read_is_shut_out = told_apart read_answer _ _ answer_number refl

-- 15 before another refusal: a list of no entries has no room for a slot of two rows
pub fifteen_first_read_is_shut_out : NoAnswer read_answer (fifteen_first 2 (read_scenario two_rows (mark_bytes ++ zero_slot) [])) (read_scenario two_rows (mark_bytes ++ zero_slot) [])
unfolding answer_number fifteen_first read_scenario scenario slots slot releases row up_to_by groups begins legal legal_at legal_row all_of
fifteen_first_read_is_shut_out = told_apart read_answer _ _ answer_number refl

-- the entry past the slots cleared: the third of three stays 9
pub past_cleared_read_is_shut_out : NoAnswer read_answer (past_cleared 2 (read_scenario two_rows (mark_bytes ++ empty_slot) three_nines)) (read_scenario two_rows (mark_bytes ++ empty_slot) three_nines)
unfolding lent_at past_cleared read_scenario scenario slots slot releases row up_to_by groups begins legal legal_at legal_row all_of
past_cleared_read_is_shut_out = told_apart read_answer _ _ (lent_at 2) refl

-- ---- `write_scenario`

-- a number of releases one short: both rows are 2
pub one_short_is_shut_out : NoAnswer written_answer (one_short two_rows both_rows twelve_nines) (write_scenario two_rows both_rows twelve_nines)
unfolding lent_at one_short slots_short slot_short write_scenario check_list check_whole over_at over_budget first_of scenario_bytes slots_bytes slot_bytes releases_bytes releases_in spelt legal legal_at legal_row all_of
one_short_is_shut_out = told_apart written_answer _ _ (lent_at 4) refl

-- 15 before another refusal: a release over the budget is 12 whatever the buffer
pub fifteen_first_written_is_shut_out : NoAnswer written_answer (fifteen_first 4 (write_scenario two_rows over_row [])) (write_scenario two_rows over_row [])
unfolding answer_number fifteen_first write_scenario check_list check_whole over_at over_budget first_of legal legal_at legal_row all_of
fifteen_first_written_is_shut_out = told_apart written_answer _ _ answer_number refl

-- the byte past the file cleared: the file of both rows has ten bytes
pub past_cleared_written_is_shut_out : NoAnswer written_answer (past_cleared 10 (write_scenario two_rows both_rows twelve_nines)) (write_scenario two_rows both_rows twelve_nines)
unfolding lent_at past_cleared write_scenario check_list check_whole over_at over_budget first_of scenario_bytes slots_bytes slot_bytes releases_bytes releases_in spelt legal legal_at legal_row all_of
past_cleared_written_is_shut_out = told_apart written_answer _ _ (lent_at 10) refl
