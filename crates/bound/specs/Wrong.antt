-- Wrong answers, each right but for one thing: what the promises of this crate shut out.
use Rattle.std.specs.Prelude.{◌+◌, ◌-◌, ◌∷◌}
use Rattle.basis.specs.Prelude.{ℕ, zero, suc, min, Bool, true, false, List, [], leb, ltb}
use Rattle.basis.specs.Words.{pick}
use Rattle.basis.specs.Upto.{upto}
use Rattle.basis.specs.Refusals.{Outcome, accepted, refused}
use Rattle.sheet.specs.Legal.{row_at}
use Rattle.sheet.specs.Lists.{filled, sheet_in}
use Rattle.sheet.specs.declared.row.Sheet.{Sheet}
use Rattle.reader.specs.Lists.{read_into}
use Rattle.bound.specs.Quantities.{minus, lesser, on, no_amount, together, less, Duration, Amount}
use Rattle.bound.specs.Test.{C, q, X, W, duration_of, amounts, room, Test, passes}
use Rattle.bound.specs.Bound.{Word, bound, none, unreached, bounds, bound_by, all_unreached, holds, Answer, bounds_of}
use Rattle.bound.specs.Lists.{results_long, result_cell}
use Rattle.tables.specs.Tables.{row, sheet_of}

-- ---- wrong tests

-- The cap q left off the threads.
unfoldable pub without_cap : Test
without_cap h R k L = less (together k (λ i. on (duration_of (row_at h i) (R i) L (X h k L)) (row_at h i).threads)) (room h k L)

-- X = L - C_k, one slot short.
unfoldable pub short_x : Test
short_x h R k L =
    let X = minus L (C (row_at h k)) in
    less (together k (λ i. on (duration_of (row_at h i) (R i) L X) (min (row_at h i).threads (q h k)))) (on X (q h k))

-- Only releases inside the length counted: x = L, without R_i - C_i.
unfoldable pub inside_only : Test
inside_only h R k L = less (together k (λ i. on (lesser (W (row_at h i) L) (X h k L)) (min (row_at h i).threads (q h k)))) (room h k L)

-- A sum that equals q × X let pass.
unfoldable pub or_equal : Test
or_equal h R k L = leb (amounts h R k L k).0 (room h k L).0

-- The sum left where it is one short of q × X.
unfoldable pub left_one_short : Test
left_one_short h R k L = pick (ltb 0 k) (ltb ((amounts h R k L k).0 + 1) (room h k L).0) (passes h R k L)

-- The sum left with the row by which it reaches q × X not added: the longest of the first n rows' sums that does not reach it.
unfoldable pub sum_before : Sheet → (ℕ → Duration) → ℕ → Duration → ℕ → Amount
sum_before h R k L zero = no_amount
sum_before h R k L (suc n) = pick (less (amounts h R k L (suc n)) (room h k L)) (amounts h R k L (suc n)) (sum_before h R k L n)

-- Such a sum looked at.
unfoldable pub row_not_added : Test
row_not_added h R k L = less (sum_before h R k L k) (room h k L)

-- Yes where the sum is left before the last row.
unfoldable pub yes_where_left : Test
yes_where_left h R k L = pick (less (amounts h R k L (k - 1)) (room h k L)) (passes h R k L) true

-- ---- wrong answers to a sheet

-- None for every row.
unfoldable pub always_none : Sheet → Answer
always_none h = (accepted, false, upto h.count (λ k. none) all_unreached)

-- The deadline for every row.
unfoldable pub always_deadline : Sheet → Answer
always_deadline h = (accepted, true, upto h.count (λ k. bound (row_at h k).deadline) all_unreached)

-- Rows after one without a bound judged all the same, by no slots for its bound.
unfoldable pub judged_on : Sheet → ℕ → ℕ → Word
judged_on h zero i = unreached
judged_on h (suc n) i = pick (ltb i n) (judged_on h n i) (bound_by passes h (bounds (judged_on h n)) n)

-- Such an answer.
unfoldable pub goes_on : Sheet → Answer
goes_on h = (accepted, holds passes h, upto h.count (judged_on h h.count) all_unreached)

-- A sheet that is not legal said to hold.
abbrev pub refused_holds : Answer
refused_holds = (refused 10 0, true, all_unreached)

-- Such a sheet refused by another number.
abbrev pub refused_by16 : Answer
refused_by16 = (refused 16 0, false, all_unreached)

-- ---- wrong lists

-- The list handed back as it was.
unfoldable pub list_untouched : List ℕ → List ℕ → Outcome × (Bool × List ℕ)
list_untouched sheet list = (accepted, (holds passes (sheet_in sheet), list))

-- The results put into the list, and what stands past them left.
unfoldable pub past_left : List ℕ → List ℕ → Outcome × (Bool × List ℕ)
past_left sheet list =
    (accepted, (holds passes (sheet_in sheet), upto (results_long (sheet_in sheet).count) (result_cell (bounds_of (sheet_in sheet)).2) list))

-- Bytes judged with no look at the room for results: what reading says, and the lists as they were.
unfoldable pub room_ignored : List ℕ → List ℕ → List ℕ → List ℕ → Outcome × (Bool × (List ℕ × (List ℕ × List ℕ)))
room_ignored s list labels results = ((read_into s list labels).0, (false, (list, (labels, results))))

-- Bytes that are refused, and the sheet's list made zero.
unfoldable pub cleared_on_refusal : List ℕ → List ℕ → List ℕ → List ℕ → Outcome × (Bool × (List ℕ × (List ℕ × List ℕ)))
cleared_on_refusal s list labels results = ((read_into s list labels).0, (false, (filled (λ i. 0) list, (labels, results))))

-- ---- sheets on which they differ

-- One processor, and three rows of which the second has a bound above its budget.
abbrev pub three_rows : Sheet
three_rows = sheet_of 1 (row 1 2 2 1 ∷ row 1 3 3 1 ∷ row 1 6 6 1 ∷ [])

-- Sheet C with a third row.
abbrev pub after_none : Sheet
after_none = sheet_of 2 (row 2 2 2 1 ∷ row 1 4 4 3 ∷ row 1 9 9 1 ∷ [])

-- Three rows on all processors.
abbrev pub three_wide : Sheet
three_wide = sheet_of 4 (row 4 9 9 2 ∷ row 4 9 9 2 ∷ row 4 9 9 2 ∷ [])

-- Sheet F as a list.
abbrev pub list_f : List ℕ
list_f = 1 ∷ 1 ∷ 1 ∷ 1 ∷ 1 ∷ 1 ∷ []
