-- Numbers, rows and sheets of a list, as the code reads them. Assumes nothing.
use Rattle.basis.specs.Prelude.{ℕ, ◌+◌, ◌*◌, ◌≤◌, ◌<◌, ◌≡◌, sym, ◌∙◌, List, set, get_or-eq_default, arith, le_refl}
use Rattle.sheet.proofs.Names.{most_rows, upto, upto_set, upto_below, length_upto, no_row, row_at, no_rows, Row, number_at, row_in, sheet_in}

-- `row_in`
pub row_read : (l : List ℕ) (k a b c d : ℕ) → a ≡ number_at l (k * 4 + 2) → b ≡ number_at l (k * 4 + 3) → c ≡ number_at l (k * 4 + 4) → d ≡ number_at l (k * 4 + 5)
    → record { threads = a; separation = b; deadline = c; budget = d } ≡ row_in l k
unfolding row_in
row_read l k a b c d ea eb ec ed = λ i. record { threads = ea i; separation = eb i; deadline = ec i; budget = ed i }

-- `sheet_in`
module _ (l : List ℕ) (rows : List Row) (i : ℕ) (so_far : rows ≡ upto i (row_in l) (no_rows most_rows)) where
  pub rows_more : (row : Row) → row ≡ row_in l i → set rows i row ≡ upto (i + 1) (row_in l) (no_rows most_rows)
  rows_more row e = upto_set i (row_in l) rows (no_rows most_rows) row so_far e

  pub sheet_read : (m n : ℕ) → i ≤ most_rows → most_rows ≤ i → m ≡ number_at l 0 → n ≡ number_at l 1 → record { processors = m; count = n; rows = rows } ≡ sheet_in l
  unfolding sheet_in
  sheet_read m n a b em en = let e : i ≡ most_rows = omega arith in rw (em, en, so_far, e)

-- row k of the sheet that a list hands over is row k of the list
pub row_in_sheet : (l : List ℕ) (k : ℕ) → k < most_rows → row_at (sheet_in l) k ≡ row_in l k
unfolding sheet_in
row_in_sheet l k h = upto_below most_rows (row_in l) (no_rows most_rows) no_row k h (le_refl most_rows)

-- `row_at`
pub row_there : (l : List ℕ) (k : ℕ) → k < most_rows → (row : Row) → row ≡ row_in l k → row ≡ row_at (sheet_in l) k
row_there l k h row e = e ∙ sym (row_in_sheet l k h)

pub row_nowhere : (l : List ℕ) (k : ℕ) → most_rows ≤ k → no_row ≡ row_at (sheet_in l) k
unfolding sheet_in
row_nowhere l k h = sym (get_or-eq_default (sheet_in l).rows no_row {n = k} (omega (arith, length_upto most_rows (row_in l) (no_rows most_rows))))

-- `row_inside`
pub numbers_handed : (l : List ℕ) (k : ℕ) → k < most_rows → ◌≡◌ {A = Row}
    (record { threads = number_at l (k * 4 + 2); separation = number_at l (k * 4 + 3); deadline = number_at l (k * 4 + 4); budget = number_at l (k * 4 + 5) })
    (row_at (sheet_in l) k)
unfolding row_in
numbers_handed l k b = sym (row_in_sheet l k b)
