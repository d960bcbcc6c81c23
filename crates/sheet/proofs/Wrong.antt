-- No answer by a wrong rule of a sheet or its list meets the promise of a function of this crate. Assumes nothing.
use Rattle.basis.specs.Prelude.{ℕ, refl, List}
use Rattle.sheet.proofs.Names.{all_of, upto, row_at, legal_row, legal_at, legal, number_at, filled, row_in, sheet_in, row_cell, list_cell, sheet_cell, cleared_cell, Row, Sheet}
use Rattle.basis.specs.Faults.{NoneMeets}
use Rattle.basis.proofs.Faults.{values_apart, bit}
use Rattle.sheet.specs.Wrong.{list_a, list_e, largest, blank_budget, nines, first_past, next_place, rows_for_processors, processors_for_rows, first_threads, same_rows, row_for_each, first_for_each, exchanged, any_sheet, nowhere_legal, judged_by, below_largest, with_blank, row_past_last, as_it_was, two_numbers, budget_for_deadline, all_cleared, ones_from}

-- past its end sheet A's list would go on with 4
pub first_past_is_shut_out : NoneMeets (first_past list_a 10) (number_at list_a 10)
unfolding first_past
first_past_is_shut_out = values_apart _ _ (λ (n : ℕ). n) refl

-- the next place: sheet A's list would begin with 2
pub next_place_is_shut_out : NoneMeets (next_place list_a 0) (number_at list_a 0)
unfolding next_place
next_place_is_shut_out = values_apart _ _ (λ (n : ℕ). n) refl

-- sheet A would have two processors, or two by the threads of its first row
pub rows_for_processors_is_shut_out : NoneMeets (rows_for_processors list_a) (sheet_in list_a).processors
unfolding rows_for_processors sheet_in
rows_for_processors_is_shut_out = values_apart _ _ (λ (n : ℕ). n) refl

pub threads_for_processors_is_shut_out : NoneMeets (first_threads list_a) (sheet_in list_a).processors
unfolding first_threads sheet_in
threads_for_processors_is_shut_out = values_apart _ _ (λ (n : ℕ). n) refl

-- sheet A would have four rows, and so would sheet E by the threads of its first row
pub processors_for_rows_is_shut_out : NoneMeets (processors_for_rows list_a) (sheet_in list_a).count
unfolding processors_for_rows sheet_in
processors_for_rows_is_shut_out = values_apart _ _ (λ (n : ℕ). n) refl

pub threads_for_rows_is_shut_out : NoneMeets (first_threads list_e) (sheet_in list_e).count
unfolding first_threads sheet_in
threads_for_rows_is_shut_out = values_apart _ _ (λ (n : ℕ). n) refl

-- every row the first: sheet A's second row would have 2 threads
pub same_rows_is_shut_out : NoneMeets (same_rows list_a) (sheet_in list_a)
unfolding same_rows sheet_in row_in upto
same_rows_is_shut_out = values_apart _ _ (λ (h : Sheet). (row_at h 1).threads) refl

-- as many rows as processors: sheet A would have four
pub row_for_each_is_shut_out : NoneMeets (row_for_each list_a) (sheet_in list_a)
unfolding row_for_each sheet_in
row_for_each_is_shut_out = values_apart _ _ (λ (h : Sheet). h.count) refl

-- every sheet legal: one with a blank budget is not
pub any_sheet_is_shut_out : NoneMeets (any_sheet (sheet_in blank_budget)) (legal (sheet_in blank_budget))
unfolding any_sheet legal legal_at legal_row all_of sheet_in row_in upto
any_sheet_is_shut_out = values_apart _ _ bit refl

-- no sheet legal: sheet A is
pub nowhere_legal_is_shut_out : NoneMeets (nowhere_legal (sheet_in list_a)) (legal (sheet_in list_a))
unfolding nowhere_legal legal legal_at legal_row all_of sheet_in row_in upto
nowhere_legal_is_shut_out = values_apart _ _ bit refl

-- the first row for every other: sheet A's second has three threads
pub first_for_each_is_shut_out : NoneMeets (first_for_each list_a 1) (row_at (sheet_in list_a) 1)
unfolding first_for_each sheet_in row_in upto
first_for_each_is_shut_out = values_apart _ _ (λ (r : Row). r.threads) refl

-- deadline and budget exchanged: sheet A's first budget would be 5
pub exchanged_is_shut_out : NoneMeets (exchanged list_a 0) (row_at (sheet_in list_a) 0)
unfolding exchanged sheet_in row_in upto
exchanged_is_shut_out = values_apart _ _ (λ (r : Row). r.budget) refl

-- the largest separation refused
pub below_largest_is_shut_out : NoneMeets (judged_by below_largest (sheet_in largest)) (legal (sheet_in largest))
unfolding judged_by below_largest legal legal_at legal_row all_of sheet_in row_in upto
below_largest_is_shut_out = values_apart _ _ bit refl

-- a blank budget allowed: the row would weigh nothing
pub with_blank_is_shut_out : NoneMeets (judged_by with_blank (sheet_in blank_budget)) (legal (sheet_in blank_budget))
unfolding judged_by with_blank legal legal_at legal_row all_of sheet_in row_in upto
with_blank_is_shut_out = values_apart _ _ bit refl

-- the row after the last looked at: sheet A's third row, which is not there, would break the ranges
pub row_past_last_is_shut_out : NoneMeets (row_past_last (sheet_in list_a)) (legal (sheet_in list_a))
unfolding row_past_last legal legal_at legal_row all_of sheet_in row_in upto
row_past_last_is_shut_out = values_apart _ _ bit refl

-- a list left as it was: sheet A put into three places, and these made zero
pub kept_by_put_is_shut_out : NoneMeets (as_it_was nines) (filled (sheet_cell (sheet_in list_a)) nines)
unfolding as_it_was filled upto list_cell row_cell sheet_in row_in
kept_by_put_is_shut_out = values_apart _ _ (λ (l : List ℕ). number_at l 0) refl

pub kept_by_clear_is_shut_out : NoneMeets (as_it_was nines) (filled (cleared_cell 1 nines) nines)
unfolding as_it_was filled upto cleared_cell
kept_by_clear_is_shut_out = values_apart _ _ (λ (l : List ℕ). number_at l 1) refl

-- two numbers of a row: sheet A's first deadline would be 2
pub two_numbers_is_shut_out : NoneMeets (filled (two_numbers (sheet_in list_a)) list_a) (filled (sheet_cell (sheet_in list_a)) list_a)
unfolding two_numbers filled upto list_cell row_cell sheet_in row_in
two_numbers_is_shut_out = values_apart _ _ (λ (l : List ℕ). number_at l 4) refl

-- the budget for the deadline: sheet A's first deadline would be 2
pub budget_for_deadline_is_shut_out : NoneMeets (filled (budget_for_deadline (sheet_in list_a)) list_a) (filled (sheet_cell (sheet_in list_a)) list_a)
unfolding budget_for_deadline filled upto list_cell row_cell sheet_in row_in
budget_for_deadline_is_shut_out = values_apart _ _ (λ (l : List ℕ). number_at l 4) refl

-- all of a list made zero, or ones in its rest
pub all_cleared_is_shut_out : NoneMeets (filled (all_cleared 1 nines) nines) (filled (cleared_cell 1 nines) nines)
unfolding all_cleared filled upto cleared_cell
all_cleared_is_shut_out = values_apart _ _ (λ (l : List ℕ). number_at l 0) refl

pub ones_from_is_shut_out : NoneMeets (filled (ones_from 1 nines) nines) (filled (cleared_cell 1 nines) nines)
unfolding ones_from filled upto cleared_cell
ones_from_is_shut_out = values_apart _ _ (λ (l : List ℕ). number_at l 1) refl
