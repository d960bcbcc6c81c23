-- Sheets A to F, as the table of document 01 has them: rows as (threads, T, D, C).
use Rattle.std.specs.Prelude.{◌∷◌}
use Rattle.basis.specs.Prelude.{ℕ, List, [], length, get_or}
use Rattle.sheet.specs.Values.{padded, no_sheet}
use Rattle.sheet.specs.declared.row.Row.{Row}
use Rattle.sheet.specs.declared.row.Sheet.{Sheet}

-- A row by its four numbers.
abbrev pub row : ℕ → ℕ → ℕ → ℕ → Row
row threads T D C = record { threads = threads; separation = T; deadline = D; budget = C }

-- The sheet by value of m processors and these rows, with zeros past them.
abbrev pub sheet_of : ℕ → List Row → Sheet
sheet_of m rs = record { processors = m; count = length rs; rows = padded rs }

-- The rows of sheet A.
abbrev pub rows_a : List Row
rows_a = row 2 5 5 2 ∷ row 3 10 10 3 ∷ []

-- The rows of sheet B.
abbrev pub rows_b : List Row
rows_b = row 3 4 4 2 ∷ row 2 8 8 2 ∷ row 1 8 8 3 ∷ []

-- The rows of sheet C.
abbrev pub rows_c : List Row
rows_c = row 2 2 2 1 ∷ row 1 4 4 3 ∷ []

-- The rows of sheet D.
abbrev pub rows_d : List Row
rows_d = row 2 2 2 1 ∷ row 1 4 4 2 ∷ []

-- The rows of sheet E.
abbrev pub rows_e : List Row
rows_e = row 4 6 6 2 ∷ row 4 6 6 2 ∷ []

-- The rows of sheet F.
abbrev pub rows_f : List Row
rows_f = row 1 1 1 1 ∷ []

-- Sheet A.
abbrev pub sheet_a : Sheet
sheet_a = sheet_of 4 rows_a

-- Sheet B.
abbrev pub sheet_b : Sheet
sheet_b = sheet_of 4 rows_b

-- Sheet C.
abbrev pub sheet_c : Sheet
sheet_c = sheet_of 2 rows_c

-- Sheet D.
abbrev pub sheet_d : Sheet
sheet_d = sheet_of 2 rows_d

-- Sheet E.
abbrev pub sheet_e : Sheet
sheet_e = sheet_of 4 rows_e

-- Sheet F.
abbrev pub sheet_f : Sheet
sheet_f = sheet_of 1 rows_f

-- The six, in their order.
abbrev pub fixed_sheets : List Sheet
fixed_sheets = sheet_a ∷ sheet_b ∷ sheet_c ∷ sheet_d ∷ sheet_e ∷ sheet_f ∷ []

-- The fixed sheet of a number; past the six there is none, all zero.
unfoldable pub fixed_sheet : ℕ → Sheet
fixed_sheet n = get_or fixed_sheets n no_sheet
