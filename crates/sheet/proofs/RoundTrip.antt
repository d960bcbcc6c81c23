-- A sheet that is written into a list comes back when the list is read. Assumes nothing.
use Rattle.basis.specs.Prelude.{ℕ, ◌+◌, ◌*◌, ◌≤◌, ◌<◌, ◌≡◌, sym, ap, ◌∙◌, ⊎_elim, List, length, take, get_or-eq_default, ext_get_or, get_or-take, length-take-le, arith, le_refl}
use Rattle.sheet.proofs.Names.{most_rows, upto, upto_below, length_upto, lt_or_le, no_row, row_at, no_rows, Sheet, number_at, filled, row_in, sheet_in, row_cell, list_cell, sheet_cell, sheet_long}
use Rattle.sheet.proofs.Inside.FilledLists.{filled_read}
use Rattle.sheet.proofs.Inside.ListRows.{row_in_sheet, row_read}
use Rattle.sheet.proofs.Inside.Cells.{cell_of_row, cell_past, no_row_past}

-- A list that has the numbers of row k has the row.
row_by_numbers : (h : Sheet) (l : List ℕ) (k : ℕ) → ((i : ℕ) → i < sheet_long (k + 1) → number_at l i ≡ sheet_cell h i) → row_at h k ≡ row_in l k
unfolding row_cell
row_by_numbers h l k same =
    let number : (j i : ℕ) → i ≡ k * 4 + j + 2 → j < 4 → row_cell (row_at h k) j ≡ number_at l i = λ j i e b. sym (same i (omega arith) ∙ cell_of_row h i k j e b) in
    row_read l k (row_at h k).threads (row_at h k).separation (row_at h k).deadline (row_at h k).budget
    (number 0 (k * 4 + 2) (omega arith) (omega arith)) (number 1 (k * 4 + 3) (omega arith) (omega arith))
    (number 2 (k * 4 + 4) (omega arith) (omega arith)) (number 3 (k * 4 + 5) (omega arith) (omega arith))

-- A list whose every number is that of a sheet hands the sheet over.
module _ (h : Sheet) (l : List ℕ) (long : length h.rows ≡ most_rows) (number : (i : ℕ) → number_at l i ≡ sheet_cell h i) where
  pub list_hands_over : sheet_in l ≡ h
  unfolding sheet_in list_cell
  list_hands_over =
      let rows : upto most_rows (row_in l) (no_rows most_rows) ≡ h.rows =
      sym (ext_get_or no_row h.rows (upto most_rows (row_in l) (no_rows most_rows)) (long ∙ sym (length_upto most_rows (row_in l) (no_rows most_rows)))
      (λ i b. row_by_numbers h l i (λ j c. number j) ∙ sym (upto_below most_rows (row_in l) (no_rows most_rows) no_row i (omega arith) (le_refl most_rows)))) in
      λ i. record { processors = number 0 i; count = number 1 i; rows = rows i }

-- A sheet whose rows from n on are not there, and that is written into a list with room for n rows, is the sheet that the list hands over.
module _ (h : Sheet) (n : ℕ) (l : List ℕ) (long : length h.rows ≡ most_rows) (past : (k : ℕ) → n ≤ k → row_at h k ≡ no_row) (room : sheet_long n ≤ length l) where
  pub sheet_comes_back : sheet_in (filled (sheet_cell h) l) ≡ h
  sheet_comes_back = list_hands_over h (filled (sheet_cell h) l) long (λ i. filled_read (sheet_cell h) l i (λ b. cell_past h n past i (omega arith)))

  -- The same where what stands in the list past those rows is cut off.
  pub sheet_in_front : (l' : List ℕ) → l' ≡ upto (sheet_long n) (sheet_cell h) l → sheet_in (take (sheet_long n) l') ≡ h
  sheet_in_front l' e = list_hands_over h (take (sheet_long n) l') long
      (λ i. ⊎_elim (λ a. get_or-take (sheet_long n) l' i 0 a ∙ rw e (upto_below (sheet_long n) (sheet_cell h) l 0 i a room))
      (λ a. get_or-eq_default (take (sheet_long n) l') 0 {n = i} (omega (arith, length-take-le (sheet_long n) l' (omega (arith, ap length e ∙ length_upto (sheet_long n) (sheet_cell h) l)))) ∙ sym (cell_past h n past i a))
      (lt_or_le i (sheet_long n)))

-- Each of the n rows comes back, whatever stands past them.
module _ (h : Sheet) (n : ℕ) (l l' : List ℕ) (e : l' ≡ upto (sheet_long n) (sheet_cell h) l) (room : sheet_long n ≤ length l) where
  number_comes_back : (i : ℕ) → i < sheet_long n → number_at l' i ≡ sheet_cell h i
  number_comes_back i b = ap (λ (x : List ℕ). number_at x i) e ∙ upto_below (sheet_long n) (sheet_cell h) l 0 i b room

  pub processors_come_back : (sheet_in l').processors ≡ h.processors
  unfolding sheet_in list_cell
  processors_come_back = number_comes_back 0 (omega arith)

  pub row_comes_back : (k : ℕ) → k < n → k < most_rows → row_at (sheet_in l') k ≡ row_at h k
  row_comes_back k b few = row_in_sheet l' k few ∙ sym (row_by_numbers h l' k (λ i c. number_comes_back i (omega arith)))

-- So is any sheet in a list with room for every row.
pub whole_sheet_comes_back : (h : Sheet) (l : List ℕ) → length h.rows ≡ most_rows → sheet_long most_rows ≤ length l → sheet_in (filled (sheet_cell h) l) ≡ h
whole_sheet_comes_back h l long room = sheet_comes_back h most_rows l long (no_row_past h long) room
