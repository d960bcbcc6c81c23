-- Two answers that a promise allows are equal. Assumes nothing.
use Rattle.basis.specs.Prelude.{ℕ, ◌≡◌, Bool, List}
use Rattle.basis.proofs.Same.{same}
use Rattle.sheet.proofs.Names.{legal, Row, Sheet, row_at, number_at, filled, sheet_in, sheet_cell, cleared_cell}

pub number_at_same : (l : List ℕ) (i r r' : ℕ) → r ≡ number_at l i → r' ≡ number_at l i → r ≡ r'
number_at_same l i = same (number_at l i)

pub processors_same : (l : List ℕ) (r r' : ℕ) → r ≡ (sheet_in l).processors → r' ≡ (sheet_in l).processors → r ≡ r'
processors_same l = same (sheet_in l).processors

pub count_same : (l : List ℕ) (r r' : ℕ) → r ≡ (sheet_in l).count → r' ≡ (sheet_in l).count → r ≡ r'
count_same l = same (sheet_in l).count

pub row_at_same : (l : List ℕ) (k : ℕ) (r r' : Row) → r ≡ row_at (sheet_in l) k → r' ≡ row_at (sheet_in l) k → r ≡ r'
row_at_same l k = same (row_at (sheet_in l) k)

pub sheet_in_same : (l : List ℕ) (r r' : Sheet) → r ≡ sheet_in l → r' ≡ sheet_in l → r ≡ r'
sheet_in_same l = same (sheet_in l)

pub is_legal_same : (l : List ℕ) (r r' : Bool) → r ≡ legal (sheet_in l) → r' ≡ legal (sheet_in l) → r ≡ r'
is_legal_same l = same (legal (sheet_in l))

-- what is left in the list
pub put_sheet_same : (h : Sheet) (l l₁ l₂ : List ℕ) → l₁ ≡ filled (sheet_cell h) l → l₂ ≡ filled (sheet_cell h) l → l₁ ≡ l₂
put_sheet_same h l = same (filled (sheet_cell h) l)

pub clear_from_same : (from : ℕ) (l l₁ l₂ : List ℕ) → l₁ ≡ filled (cleared_cell from l) l → l₂ ≡ filled (cleared_cell from l) l → l₁ ≡ l₂
clear_from_same from l = same (filled (cleared_cell from l) l)
