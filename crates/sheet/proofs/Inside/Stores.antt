-- Rows that are stored one after another into a list: what stands before them, a row more, and two lists of the same rows. Assumes nothing.
use Rattle.basis.specs.Prelude.{ℕ, ◌+◌, ◌-◌, ◌*◌, ◌/◌, ◌%◌, ◌<◌, ◌≡◌, refl, sym, ap, ◌∙◌, List, ⊎_elim, set, arith, div-add-mod', eq-eqb, ne_eqb}
use Rattle.sheet.proofs.Names.{upto, upto_set, lt_or_le, Row, row_cell, list_cell, sheet_long}
use Rattle.sheet.proofs.Inside.Cells.{cell_of}

module _ (m n : ℕ) (rows : ℕ → Row) where
  -- a row more
  pub row_stored : (k : ℕ) (l l₀ : List ℕ) → l ≡ upto (sheet_long k) (list_cell m n rows) l₀ → (row : Row) → row ≡ rows k
      → set (set (set (set l (k * 4 + 2) row.threads) (k * 4 + 3) row.separation) (k * 4 + 4) row.deadline) (k * 4 + 5) row.budget
      ≡ upto (sheet_long (k + 1)) (list_cell m n rows) l₀
  unfolding row_cell
  row_stored k l l₀ e row er =
      let a = one 0 (k * 4 + 2) (k * 4 + 3) l row.threads e refl (omega arith) (omega arith) (omega arith) in
      let b = one 1 (k * 4 + 3) (k * 4 + 4) _ row.separation a refl (omega arith) (omega arith) (omega arith) in
      let c = one 2 (k * 4 + 4) (k * 4 + 5) _ row.deadline b refl (omega arith) (omega arith) (omega arith) in
      one 3 (k * 4 + 5) (sheet_long (k + 1)) _ row.budget c refl (omega arith) (omega arith) (omega arith)
    where
      one : (j i z : ℕ) (x : List ℕ) (v : ℕ) → x ≡ upto i (list_cell m n rows) l₀ → v ≡ row_cell row j → j < 4 → i ≡ k * 4 + j + 2 → i + 1 ≡ z → set x i v ≡ upto z (list_cell m n rows) l₀
      one j i z x v so_far ev b ei ez =
          upto_set i (list_cell m n rows) x l₀ v so_far (ev ∙ ap (λ (r : Row). row_cell r j) er ∙ sym (cell_of m n rows i k j ei b)) ∙ ap (λ (y : ℕ). upto y (list_cell m n rows) l₀) ez

  -- two lists of the same n rows
  pub rows_agree : (rows' : ℕ → Row) → ((k : ℕ) → k < n → rows k ≡ rows' k) → (i : ℕ) → i < sheet_long n → list_cell m n rows i ≡ list_cell m n rows' i
  unfolding list_cell
  rows_agree rows' same i l =
      ⊎_elim (λ a. rw (eq-eqb i 0 (omega arith))) (λ a. ⊎_elim (λ b. rw (ne_eqb i 0 (λ z. omega arith), eq-eqb i 1 (omega arith)))
      (λ b. rw (ne_eqb i 0 (λ z. omega arith), ne_eqb i 1 (λ z. omega arith))
      (ap (λ (row : Row). row_cell row ((i - 2) % 4)) (same ((i - 2) / 4) (omega (arith, div-add-mod' (i - 2) 4))))) (lt_or_le i 2)) (lt_or_le i 1)
