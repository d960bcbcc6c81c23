-- Placement and ageing of one row are its steps: its job, and its code. Assumes nothing.
use Rattle.basis.specs.Prelude.{ℕ, ◌≡◌, refl}
use Rattle.records.proofs.Names.{Row, Job, Placed, Aged, released, fits, worked, aged, code_of, placed_row, aged_row, begun_row, stepped_row}

-- the code of a row that is placed and then aged
pub row_code : (free : ℕ) (row : Row) (s : Job) → (aged_row row (worked (fits free row s) s) (placed_row row s free).code).code ≡ code_of row (fits free row s) s (aged row (worked (fits free row s) s))
unfolding aged_row placed_row code_of aged
row_code free row s = refl

-- `stepped`
pub stepped_is : (row : Row) (s b : Job) (release f : ℕ) → b ≡ released release s → (p : Placed) → p ≡ placed_row row b f → (a : Aged) → a ≡ aged_row row p.after p.code
    → record { free = p.free; after = a.after; code = a.code } ≡ stepped_row row s release f
unfolding stepped_row begun_row placed_row aged_row code_of aged
stepped_is row s b release f eb p ep a ea = rw (ea, ep, eb)
