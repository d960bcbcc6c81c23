-- A sheet as a list of plain numbers.
use Rattle.std.specs.Prelude.{◌+◌, ◌-◌, ◌*◌, ◌/◌, ◌%◌}
use Rattle.basis.specs.Prelude.{ℕ, Bool, List, length, get_or, ltb, eqb}
use Rattle.basis.specs.Limits.{most_rows}
use Rattle.basis.specs.Words.{pick}
use Rattle.basis.specs.Upto.{upto}
use Rattle.sheet.specs.Legal.{row_at, legal_row}
use Rattle.sheet.specs.Values.{no_rows}
use Rattle.sheet.specs.declared.row.Row.{Row}
use Rattle.sheet.specs.declared.row.Sheet.{Sheet}

-- The number at a place of a list, and zero past its end: what is missing counts as not reported.
abbrev pub number_at : List ℕ → ℕ → ℕ
number_at l i = get_or l i 0

-- A list whose every place i is made f i.
unfoldable pub filled : (ℕ → ℕ) → List ℕ → List ℕ
filled f l = upto (length l) f l

-- A sheet's list: processors, rows n, and then of each row threads, separation, deadline and budget.
unfoldable pub row_in : List ℕ → ℕ → Row
row_in l k =
    record {
      threads = number_at l (k * 4 + 2);
      separation = number_at l (k * 4 + 3);
      deadline = number_at l (k * 4 + 4);
      budget = number_at l (k * 4 + 5);
    }

-- The sheet that a list hands over; numbers past the last row there is room for are not looked at.
unfoldable pub sheet_in : List ℕ → Sheet
sheet_in l = record { processors = number_at l 0; count = number_at l 1; rows = upto most_rows (row_in l) (no_rows most_rows) }

-- The numbers of a row, from 0 to 3.
unfoldable pub row_cell : Row → ℕ → ℕ
row_cell row j =
    pick (eqb j 0) row.threads (pick (eqb j 1) row.separation (pick (eqb j 2) row.deadline row.budget))

-- The number at place i of the list of m processors and n rows.
unfoldable pub list_cell : ℕ → ℕ → (ℕ → Row) → ℕ → ℕ
list_cell m n rows i = pick (eqb i 0) m (pick (eqb i 1) n (row_cell (rows ((i - 2) / 4)) ((i - 2) % 4)))

-- The number at place i of a sheet's list: past the rows it is zero.
abbrev pub sheet_cell : Sheet → ℕ → ℕ
sheet_cell h = list_cell h.processors h.count (row_at h)

-- The places that a list needs for the sheet of so many rows.
abbrev pub sheet_long : ℕ → ℕ
sheet_long n = n * 4 + 2

-- The number at place i of a list that is made zero from a place on.
unfoldable pub cleared_cell : ℕ → List ℕ → ℕ → ℕ
cleared_cell from l i = pick (ltb i from) (number_at l i) 0

-- Row i of a sheet is in the ranges on m processors, as the check of a list's rows finds it.
unfoldable pub legal_rows : ℕ → Sheet → ℕ → Bool
legal_rows m h i = legal_row m (row_at h i)
