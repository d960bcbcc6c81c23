-- Wrong bounds are shut out: on a named sheet no answer with the fault meets the promise. Assumes nothing.
use Rattle.basis.specs.Prelude.{ℕ, ◌≡◌, refl, Bool, List, [], ◌∷◌, arith, get_or}
use Rattle.bound.proofs.Names.{all_of, sum, upto, pair_cell, Outcome, legal_row, legal_at, legal, row_in, sheet_in, filled, Sheet, into_lists, read_into, q, X, x, W, duration_of, amount_of, amounts, room, passes, unreached, least, bound_by, judge, results_to, result_of, holds, Answer, bounds_by, bounds_of, bound_number, result_cell, results_on, bounds_on, judged_bytes, sheet_a, sheet_c, sheet_e, sheet_f}
use Rattle.basis.specs.Readers.{begins}
use Rattle.basis.specs.Faults.{NoneMeets}
use Rattle.basis.proofs.Faults.{apart, number_of, bit}
use Rattle.sheet.specs.Values.{no_sheet}
use Rattle.reader.specs.Form.{head_by, sheet_by}
use Rattle.bound.proofs.FromBytes.{Found}
use Rattle.bound.specs.Wrong.{without_cap, short_x, inside_only, or_equal, left_one_short, sum_before, row_not_added, yes_where_left, always_none, always_deadline, judged_on, goes_on, refused_holds, refused_by16, list_untouched, past_left, room_ignored, cleared_on_refusal, three_rows, after_none, three_wide, list_f}

-- whether the sheet holds, as a number
abbrev green : Answer → ℕ
green a = bit a.1

-- the number of row k's bound, 0 where it has none
abbrev bound_at : ℕ → Answer → ℕ
bound_at k a = bound_number (get_or a.2 k unreached)

-- the number at place i of the list afterwards
abbrev list_at : ℕ → Outcome × (Bool × List ℕ) → ℕ
list_at i a = get_or a.1.1 i 0

-- ---- `bounds`, by a wrong test

-- sheet E would fail
pub without_cap_is_shut_out : NoneMeets (bounds_by without_cap sheet_e) (bounds_of sheet_e)
unfolding all_of sum upto legal_row legal_at legal q X x W duration_of amount_of amounts room passes least bound_by judge results_to result_of holds bounds_by without_cap
without_cap_is_shut_out = apart green (bounds_by without_cap sheet_e) (bounds_of sheet_e) 0 1 refl refl (λ e. omega arith)

-- sheet F would have no bound
pub short_X_is_shut_out : NoneMeets (bounds_by short_x sheet_f) (bounds_of sheet_f)
unfolding all_of sum upto legal_row legal_at legal q X x W duration_of amount_of amounts room passes least bound_by judge results_to result_of holds bounds_by short_x
short_X_is_shut_out = apart green (bounds_by short_x sheet_f) (bounds_of sheet_f) 0 1 refl refl (λ e. omega arith)

-- the third of three rows would have a bound
pub inside_only_is_shut_out : NoneMeets (bounds_by inside_only three_rows) (bounds_of three_rows)
unfolding all_of sum upto legal_row legal_at legal q X x W duration_of amount_of amounts room passes least bound_by judge results_to result_of holds bounds_by inside_only
inside_only_is_shut_out = apart green (bounds_by inside_only three_rows) (bounds_of three_rows) 1 0 refl refl (λ e. omega arith)

-- sheet C would hold
pub or_equal_is_shut_out : NoneMeets (bounds_by or_equal sheet_c) (bounds_of sheet_c)
unfolding all_of sum upto legal_row legal_at legal q X x W duration_of amount_of amounts room passes least bound_by judge results_to result_of holds bounds_by or_equal
or_equal_is_shut_out = apart green (bounds_by or_equal sheet_c) (bounds_of sheet_c) 1 0 refl refl (λ e. omega arith)

-- the second row of sheet E would have bound 5
pub left_one_short_is_shut_out : NoneMeets (bounds_by left_one_short sheet_e) (bounds_of sheet_e)
unfolding all_of sum upto legal_row legal_at legal q X x W duration_of amount_of amounts room passes least bound_by judge results_to result_of holds bounds_by left_one_short
left_one_short_is_shut_out = apart (bound_at 1) (bounds_by left_one_short sheet_e) (bounds_of sheet_e) 5 4 refl refl (λ e. omega arith)

-- the second row of sheet A would have its budget
pub row_not_added_is_shut_out : NoneMeets (bounds_by row_not_added sheet_a) (bounds_of sheet_a)
unfolding all_of sum upto legal_row legal_at legal q X x W duration_of amount_of amounts room passes least bound_by judge results_to result_of holds bounds_by sum_before row_not_added
row_not_added_is_shut_out = apart (bound_at 1) (bounds_by row_not_added sheet_a) (bounds_of sheet_a) 3 5 refl refl (λ e. omega arith)

-- the third of three wide rows would have its budget
pub yes_where_left_is_shut_out : NoneMeets (bounds_by yes_where_left three_wide) (bounds_of three_wide)
unfolding all_of sum upto legal_row legal_at legal q X x W duration_of amount_of amounts room passes least bound_by judge results_to result_of holds bounds_by yes_where_left
yes_where_left_is_shut_out = apart (bound_at 2) (bounds_by yes_where_left three_wide) (bounds_of three_wide) 2 6 refl refl (λ e. omega arith)

-- ---- `bounds`, without a test

pub always_none_is_shut_out : NoneMeets (always_none sheet_a) (bounds_of sheet_a)
unfolding all_of sum upto legal_row legal_at legal q X x W duration_of amount_of amounts room passes least bound_by judge results_to result_of holds bounds_by always_none
always_none_is_shut_out = apart green (always_none sheet_a) (bounds_of sheet_a) 0 1 refl refl (λ e. omega arith)

pub always_deadline_is_shut_out : NoneMeets (always_deadline sheet_a) (bounds_of sheet_a)
unfolding all_of sum upto legal_row legal_at legal q X x W duration_of amount_of amounts room passes least bound_by judge results_to result_of holds bounds_by always_deadline
always_deadline_is_shut_out = apart (bound_at 0) (always_deadline sheet_a) (bounds_of sheet_a) 5 2 refl refl (λ e. omega arith)

-- one answer for every sheet: sheet A holds, and sheet C does not
pub one_verdict_is_shut_out : (one : Answer) → ((h : Sheet) → one ≡ bounds_of h) → ⊥
unfolding all_of sum upto legal_row legal_at legal q X x W duration_of amount_of amounts room passes least bound_by judge results_to result_of holds bounds_by
one_verdict_is_shut_out one e = apart green (bounds_of sheet_a) (bounds_of sheet_c) 1 0 refl refl (λ f. omega arith) one (e sheet_a) (e sheet_c)

-- a row below one without a bound is not reached
pub goes_on_is_shut_out : NoneMeets (goes_on after_none) (bounds_of after_none)
unfolding all_of sum upto legal_row legal_at legal q X x W duration_of amount_of amounts room passes least bound_by judge results_to result_of holds bounds_by judged_on goes_on
goes_on_is_shut_out = apart (bound_at 2) (goes_on after_none) (bounds_of after_none) 2 0 refl refl (λ e. omega arith)

-- a sheet of zeros is not legal
pub refused_holds_is_shut_out : NoneMeets refused_holds (bounds_of no_sheet)
unfolding all_of legal bounds_by
refused_holds_is_shut_out = apart green refused_holds (bounds_of no_sheet) 1 0 refl refl (λ e. omega arith)

pub refused_by_16_is_shut_out : NoneMeets refused_by16 (bounds_of no_sheet)
unfolding all_of legal bounds_by
refused_by_16_is_shut_out = apart (λ (a : Answer). number_of a.0) refused_by16 (bounds_of no_sheet) 16 10 refl refl (λ e. omega arith)

-- ---- `bounds_on`

pub list_untouched_is_shut_out : NoneMeets (list_untouched list_f (9 ∷ 9 ∷ [])) (bounds_on list_f (9 ∷ 9 ∷ []))
unfolding all_of sum upto legal_row legal_at legal q X x W duration_of amount_of amounts room passes least bound_by judge results_to result_of holds bounds_by row_in sheet_in filled pair_cell result_cell results_on bounds_on list_untouched
list_untouched_is_shut_out = apart (list_at 1) (list_untouched list_f (9 ∷ 9 ∷ [])) (bounds_on list_f (9 ∷ 9 ∷ [])) 9 1 refl refl (λ e. omega arith)

pub past_left_is_shut_out : NoneMeets (past_left list_f (9 ∷ 9 ∷ 9 ∷ [])) (bounds_on list_f (9 ∷ 9 ∷ 9 ∷ []))
unfolding all_of sum upto legal_row legal_at legal q X x W duration_of amount_of amounts room passes least bound_by judge results_to result_of holds bounds_by row_in sheet_in filled pair_cell result_cell results_on bounds_on past_left
past_left_is_shut_out = apart (list_at 2) (past_left list_f (9 ∷ 9 ∷ 9 ∷ [])) (bounds_on list_f (9 ∷ 9 ∷ 9 ∷ [])) 9 0 refl refl (λ e. omega arith)

-- ---- `judge_bytes`

-- no bytes, a list of labels, and no room for results
pub room_ignored_is_shut_out : NoneMeets (room_ignored [] [] (9 ∷ 9 ∷ []) []) (judged_bytes [] [] (9 ∷ 9 ∷ []) [])
unfolding begins head_by sheet_by into_lists read_into judged_bytes room_ignored
room_ignored_is_shut_out = apart (λ (a : Found). number_of a.0) (room_ignored [] [] (9 ∷ 9 ∷ []) []) (judged_bytes [] [] (9 ∷ 9 ∷ []) []) 1 15 refl refl (λ e. omega arith)

-- no bytes, and a sheet's list of one number
pub cleared_on_refusal_is_shut_out : NoneMeets (cleared_on_refusal [] (9 ∷ []) [] []) (judged_bytes [] (9 ∷ []) [] [])
unfolding begins upto filled head_by sheet_by into_lists read_into judged_bytes cleared_on_refusal
cleared_on_refusal_is_shut_out = apart (λ (a : Found). get_or a.1.1.0 0 0) (cleared_on_refusal [] (9 ∷ []) [] []) (judged_bytes [] (9 ∷ []) [] []) 0 9 refl refl (λ e. omega arith)
