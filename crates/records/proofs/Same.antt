-- Equal answers: any two answers that a promise allows are equal. Assumes nothing.
use Rattle.std.specs.Prelude.{Result}
use Rattle.basis.specs.Prelude.{ℕ, ◌≡◌, Bool}
use Rattle.basis.proofs.Same.{same, same_by}
use Rattle.records.proofs.Names.{outcome, Row, Job, RowState, Placed, Aged, legal_record, released, check_row, placed_row, aged_row, stepped_row}
use Rattle.basis.specs.declared.refusal.Refusal.{Refusal}
use Rattle.basis.proofs.Refusals.{outcome_one_to_one}

module _ (row : Row) (s : RowState) where
  -- `is_legal_record`
  pub is_legal_record_same : (a b : Bool) → a ≡ legal_record row s → b ≡ legal_record row s → a ≡ b
  is_legal_record_same = same (legal_record row s)

  -- `check_row`
  pub check_row_same : (release place : ℕ) (a b : Result (Unit {0}) Refusal) → outcome a ≡ check_row row s release place → outcome b ≡ check_row row s release place → a ≡ b
  check_row_same release place = same_by outcome outcome_one_to_one (check_row row s release place)

module _ (row : Row) (j : Job) where
  -- `released`
  pub released_same : (release : ℕ) (a b : Job) → a ≡ released release j → b ≡ released release j → a ≡ b
  released_same release = same (released release j)

  -- `placed`
  pub placed_same : (free : ℕ) (a b : Placed) → a ≡ placed_row row j free → b ≡ placed_row row j free → a ≡ b
  placed_same free = same (placed_row row j free)

  -- `aged`
  pub aged_same : (code : ℕ) (a b : Aged) → a ≡ aged_row row j code → b ≡ aged_row row j code → a ≡ b
  aged_same code = same (aged_row row j code)

  -- `stepped`
  pub stepped_same : (release free : ℕ) (a b : Placed) → a ≡ stepped_row row j release free → b ≡ stepped_row row j release free → a ≡ b
  stepped_same release free = same (stepped_row row j release free)
