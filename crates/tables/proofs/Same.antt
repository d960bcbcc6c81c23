-- Equal answers: any two answers that the promise allows are equal. Assumes nothing.
use Rattle.basis.specs.Prelude.{ℕ, ◌≡◌}
use Rattle.basis.proofs.Same.{same}
use Rattle.sheet.specs.declared.row.Sheet.{Sheet}
use Rattle.tables.specs.Tables.{fixed_sheet}

-- `fixed_sheet`
pub fixed_sheet_same : (n : ℕ) (a b : Sheet) → a ≡ fixed_sheet n → b ≡ fixed_sheet n → a ≡ b
fixed_sheet_same n = same (fixed_sheet n)
