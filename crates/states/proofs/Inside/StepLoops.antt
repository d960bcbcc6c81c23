-- What placing all rows and ageing all rows make of the codes, one row more. Assumes nothing.
use Rattle.basis.specs.Prelude.{ℕ, ◌+◌, ◌≡◌, List, get_or, set}
use Rattle.states.proofs.Names.{upto, upto_read, upto_set, row_at, Sheet, Placed, Aged, no_record, placed_row, aged_row, free_at, held, job_at, placed_at, placed_record, placed_code, aged_at, aged_record, aged_code}
use Rattle.states.specs.declared.state.State.{State as Value}

-- a row more is placed
module _ (h : Sheet) (t₀ t : Value) (free i : ℕ) (ef : free ≡ free_at h.processors (row_at h) (job_at (held t₀)) i)
    (so_far : t.rows ≡ upto i (placed_record h (held t₀)) t₀.rows) (r : Placed) (er : r ≡ placed_row (row_at h i) (job_at (held t) i) free) where
  is_placed : r ≡ placed_at h (held t₀) i
  is_placed = let e = upto_read i (placed_record h (held t₀)) t.rows t₀.rows no_record so_far in cc

  pub placed_codes_lem : (cs cs₀ : List ℕ) → cs ≡ upto i (placed_code h (held t₀)) cs₀ → set cs i r.code ≡ upto (i + 1) (placed_code h (held t₀)) cs₀
  placed_codes_lem cs cs₀ e = upto_set i (placed_code h (held t₀)) cs cs₀ r.code e (rw is_placed)

-- a row more is aged
module _ (h : Sheet) (t₀ t : Value) (cs₀ cs : List ℕ) (i : ℕ) (so_far : t.rows ≡ upto i (aged_record h (held t₀) cs₀) t₀.rows)
    (codes_so_far : cs ≡ upto i (aged_code h (held t₀) cs₀) cs₀) (r : Aged) (er : r ≡ aged_row (row_at h i) (job_at (held t) i) (get_or cs i 0)) where
  is_aged : r ≡ aged_at h (held t₀) cs₀ i
  is_aged =
      let e = upto_read i (aged_record h (held t₀) cs₀) t.rows t₀.rows no_record so_far in
      let f = upto_read i (aged_code h (held t₀) cs₀) cs cs₀ 0 codes_so_far in cc

  pub aged_codes_lem : set cs i r.code ≡ upto (i + 1) (aged_code h (held t₀) cs₀) cs₀
  aged_codes_lem = upto_set i (aged_code h (held t₀) cs₀) cs cs₀ r.code codes_so_far (rw is_aged)
