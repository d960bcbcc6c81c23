-- The fixed sheets: rows with zeros past them, and each sheet by its number. Assumes nothing.
use Rattle.std.proofs.lemmas.List.{drop-replicate}
use Rattle.basis.specs.Prelude.{ℕ, ◌≤◌, ◌≡◌, sym, ap, ◌∙◌, List, ◌++◌, length, drop, arith, get_or, get_or-eq_default}
use Rattle.basis.specs.Limits.{most_rows}
use Rattle.sheet.specs.Legal.{no_row}
use Rattle.sheet.specs.Values.{no_rows, no_sheet}
use Rattle.sheet.specs.declared.row.Row.{Row}
use Rattle.sheet.specs.declared.row.Sheet.{Sheet}
use Rattle.tables.specs.Tables.{sheet_of, fixed_sheets, fixed_sheet}

-- `sheet_of`
pub rows_copied : (m : ℕ) (rows copied : List Row) → copied ≡ rows → record { processors = m; count = length rows; rows = copied ++ drop (length rows) (no_rows most_rows) } ≡ sheet_of m rows
rows_copied m rows copied e = rw (e, drop-replicate (length rows) most_rows no_row)

-- `fixed_sheet`
module _ (n : ℕ) (r : Sheet) where
  pub by_number : (i : ℕ) → n ≡ i → r ≡ get_or fixed_sheets i no_sheet → r ≡ fixed_sheet n
  unfolding fixed_sheet
  by_number i e f = f ∙ ap (λ (k : ℕ). get_or fixed_sheets k no_sheet) (sym e)

  pub past_six : (n ≡ 0 → ⊥) → (n ≡ 1 → ⊥) → (n ≡ 2 → ⊥) → (n ≡ 3 → ⊥) → (n ≡ 4 → ⊥) → (n ≡ 5 → ⊥) → r ≡ no_sheet → r ≡ fixed_sheet n
  unfolding fixed_sheet
  past_six a b c d e f g = let h : 6 ≤ n = omega arith in g ∙ sym (get_or-eq_default fixed_sheets no_sheet h)
