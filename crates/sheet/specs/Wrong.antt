-- Wrong rules of a sheet and its list, each the rule of document 01 but for one thing, and the lists that tell them.
use Rattle.std.specs.Prelude.{◌+◌, ◌-◌, ◌/◌, ◌%◌, ◌∷◌}
use Rattle.basis.specs.Prelude.{ℕ, Bool, true, false, List, [], get_or, ltb, eqb}
use Rattle.basis.specs.Limits.{most_processors, most_rows, most_separation}
use Rattle.basis.specs.Words.{pick, both, within, all_of}
use Rattle.basis.specs.Upto.{upto}
use Rattle.sheet.specs.Legal.{row_at, legal_at}
use Rattle.sheet.specs.Values.{no_rows}
use Rattle.sheet.specs.Lists.{number_at, row_in, sheet_in, row_cell, sheet_cell}
use Rattle.sheet.specs.declared.row.Row.{Row}
use Rattle.sheet.specs.declared.row.Sheet.{Sheet}

-- The list of sheet A: four processors, and rows (2,5,5,2) and (3,10,10,3).
abbrev pub list_a : List ℕ
list_a = 4 ∷ 2 ∷ 2 ∷ 5 ∷ 5 ∷ 2 ∷ 3 ∷ 10 ∷ 10 ∷ 3 ∷ []

-- The list of sheet E: four processors, and two rows (4,6,6,2).
abbrev pub list_e : List ℕ
list_e = 4 ∷ 2 ∷ 4 ∷ 6 ∷ 6 ∷ 2 ∷ 4 ∷ 6 ∷ 6 ∷ 2 ∷ []

-- One processor and a row of the largest separation.
abbrev pub largest : List ℕ
largest = 1 ∷ 1 ∷ 1 ∷ most_separation ∷ 1 ∷ 1 ∷ []

-- One processor and a row whose budget is blank.
abbrev pub blank_budget : List ℕ
blank_budget = 1 ∷ 1 ∷ 1 ∷ 1 ∷ 1 ∷ 0 ∷ []

-- Three places that hold 9.
abbrev pub nines : List ℕ
nines = 9 ∷ 9 ∷ 9 ∷ []

-- Past its end a list is said to go on with its first number.
unfoldable pub first_past : List ℕ → ℕ → ℕ
first_past l i = get_or l i (number_at l 0)

-- The number at the next place is read.
unfoldable pub next_place : List ℕ → ℕ → ℕ
next_place l i = number_at l (i + 1)

-- The rows are taken for the processors.
unfoldable pub rows_for_processors : List ℕ → ℕ
rows_for_processors l = (sheet_in l).count

-- The processors are taken for the rows.
unfoldable pub processors_for_rows : List ℕ → ℕ
processors_for_rows l = (sheet_in l).processors

-- The threads of the first row are taken for either.
unfoldable pub first_threads : List ℕ → ℕ
first_threads l = number_at l 2

-- A sheet whose every row is the first of the list.
unfoldable pub same_rows : List ℕ → Sheet
same_rows l = record { processors = number_at l 0; count = number_at l 1; rows = upto most_rows (λ k. row_in l 0) (no_rows most_rows) }

-- A sheet that has as many rows as processors.
unfoldable pub row_for_each : List ℕ → Sheet
row_for_each l = record { processors = number_at l 0; count = number_at l 0; rows = upto most_rows (row_in l) (no_rows most_rows) }

-- The first row is taken for every other.
unfoldable pub first_for_each : List ℕ → ℕ → Row
first_for_each l k = row_at (sheet_in l) 0

-- A row with its deadline and its budget exchanged.
unfoldable pub exchanged : List ℕ → ℕ → Row
exchanged l k =
    let row = row_at (sheet_in l) k in
    record { threads = row.threads; separation = row.separation; deadline = row.budget; budget = row.deadline }

-- Every sheet is in the ranges.
unfoldable pub any_sheet : Sheet → Bool
any_sheet h = true

-- No sheet is.
unfoldable pub nowhere_legal : Sheet → Bool
nowhere_legal h = false

-- A sheet whose rows are judged one by one in another way.
unfoldable pub judged_by : (ℕ → Row → Bool) → Sheet → Bool
judged_by row h = both (within 1 most_processors h.processors) (both (within 1 most_rows h.count) (all_of h.count (λ i. row h.processors (row_at h i))))

-- A row's ranges without the largest separation.
unfoldable pub below_largest : ℕ → Row → Bool
below_largest m row =
    both (within 1 m row.threads)
    (both (within 1 (most_separation - 1) row.separation) (both (within 1 row.separation row.deadline) (within 1 row.deadline row.budget)))

-- A row's ranges with a blank budget among them.
unfoldable pub with_blank : ℕ → Row → Bool
with_blank m row =
    both (within 1 m row.threads)
    (both (within 1 most_separation row.separation) (both (within 1 row.separation row.deadline) (within 0 row.deadline row.budget)))

-- The row after the last is looked at too.
unfoldable pub row_past_last : Sheet → Bool
row_past_last h = both (within 1 most_processors h.processors) (both (within 1 most_rows h.count) (all_of (h.count + 1) (legal_at h)))

-- A list is left as it was.
unfoldable pub as_it_was : List ℕ → List ℕ
as_it_was l = l

-- Only threads and separation of a row are written, each twice.
unfoldable pub two_numbers : Sheet → ℕ → ℕ
two_numbers h i = pick (ltb i 2) (sheet_cell h i) (row_cell (row_at h ((i - 2) / 4)) ((i - 2) % 2))

-- A row's budget is written where its deadline belongs.
unfoldable pub budget_for_deadline : Sheet → ℕ → ℕ
budget_for_deadline h i = pick (eqb ((i - 2) % 4) 2) (sheet_cell h (i + 1)) (sheet_cell h i)

-- Every place of the list is made zero.
unfoldable pub all_cleared : ℕ → List ℕ → ℕ → ℕ
all_cleared from l i = 0

-- Ones stand where there should be zeros.
unfoldable pub ones_from : ℕ → List ℕ → ℕ → ℕ
ones_from from l i = pick (ltb i from) (number_at l i) 1
