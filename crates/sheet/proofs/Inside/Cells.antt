-- The numbers at the places of a sheet's list, as the code finds them. Assumes nothing.
use Rattle.basis.specs.Prelude.{ℕ, ◌+◌, ◌-◌, ◌*◌, ◌/◌, ◌%◌, ◌≤◌, ◌<◌, ◌≡◌, sym, ap, ◌∙◌, List, map, length, length-map, get_or-eq_default, arith, mod-lt, div-add-mod', ne_eqb}
use lib.Arith.{digits_div, digits_mod}
use Rattle.sheet.proofs.Names.{most_rows, get_d_all, pick_same, no_row, row_at, no_sheet, Row, Sheet, row_cell, list_cell, sheet_cell, sheet_long}

-- number j of row k of a list
pub cell_of : (m n : ℕ) (rows : ℕ → Row) (i k j : ℕ) → i ≡ k * 4 + j + 2 → j < 4 → list_cell m n rows i ≡ row_cell (rows k) j
unfolding list_cell
cell_of m n rows i k j e b =
    let q : i - 2 ≡ k * 4 + j = omega arith in
    rw (ne_eqb i 0 (λ z. omega arith), ne_eqb i 1 (λ z. omega arith), q, digits_div k {m = 4} {r = j} b, digits_mod k {m = 4} {r = j} b)

-- and of a sheet
pub cell_of_row : (h : Sheet) (i k j : ℕ) → i ≡ k * 4 + j + 2 → j < 4 → sheet_cell h i ≡ row_cell (row_at h k) j
cell_of_row h = cell_of h.processors h.count (row_at h)

-- a cell of a row that is not there
pub cell_of_none : (j : ℕ) → row_cell no_row j ≡ 0
unfolding row_cell
cell_of_none j = simp pick_same

-- past the rows that are there, from row n on, every cell is zero
pub cell_past : (h : Sheet) (n : ℕ) → ((k : ℕ) → n ≤ k → row_at h k ≡ no_row) → (i : ℕ) → sheet_long n ≤ i → sheet_cell h i ≡ 0
cell_past h n past i b =
    cell_of_row h i ((i - 2) / 4) ((i - 2) % 4) (omega (arith, div-add-mod' (i - 2) 4)) (mod-lt (i - 2) {m = 4} (omega arith))
    ∙ ap (λ (row : Row). row_cell row ((i - 2) % 4)) (past ((i - 2) / 4) (omega (arith, div-add-mod' (i - 2) 4, mod-lt (i - 2) {m = 4} (omega arith))))
    ∙ cell_of_none ((i - 2) % 4)

-- every number of no sheet is zero
pub no_sheet_cell : (i : ℕ) → sheet_cell no_sheet i ≡ 0
unfolding list_cell
no_sheet_cell i = simp (get_d_all most_rows ((i - 2) / 4) no_row, cell_of_none, pick_same)

-- no sheet has a row past those that there is room for
pub no_row_past : (h : Sheet) → length h.rows ≡ most_rows → (k : ℕ) → most_rows ≤ k → row_at h k ≡ no_row
no_row_past h long k b = get_or-eq_default h.rows no_row {n = k} (rw long b)

-- the length of an array of structs
pub unmapped : {A B : Type 0} (f : A → B) (l : List A) (n : ℕ) → length (map f l) ≡ n → length l ≡ n
unmapped f l n e = sym (length-map l f) ∙ e

-- a place past the rows
pub past_rows : (h : Sheet) (i : ℕ) → length h.rows ≡ most_rows → sheet_long most_rows ≤ i → 0 ≡ sheet_cell h i
past_rows h i long b = sym (cell_past h most_rows (no_row_past h long) i b)
