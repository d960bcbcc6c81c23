-- The facts that the functions below the public ones are called with.
use Rattle.std.specs.Prelude.{◌+◌, ◌*◌, ◌≤◌, ◌<◌, ◌≡◌}
use Rattle.basis.specs.Prelude.{ℕ, Bool, false, List, length}
use Rattle.basis.specs.Limits.{most_processors}
use Rattle.basis.specs.Words.{all_of}
use Rattle.basis.specs.Upto.{upto}
use Rattle.sheet.specs.Legal.{row_at, Legal}
use Rattle.sheet.specs.declared.row.Row.{Row}
use Rattle.sheet.specs.declared.row.Sheet.{Sheet}
use Rattle.sheet.specs.Lists.{number_at, sheet_in, sheet_long}
use Rattle.bound.specs.Quantities.{widest_separation, slots, Duration}
use Rattle.bound.specs.Test.{passes}
use Rattle.bound.specs.Bound.{bounds, bounded, result_of}
use Rattle.bound.specs.Lists.{results_long, result_cell, words}

-- The bounds that a list of results holds.
abbrev pub held_in : List ℕ → ℕ → Duration
held_in l i = slots (number_at l (i * 2 + 1))

-- A sheet's list has room for its rows.
abbrev pub Long : List ℕ → Type 0
Long l = sheet_long (sheet_in l).count ≤ length l

-- The two lists that rows are judged by, the sheet's and that of the results, have room for the sheet's rows.
pub record Lent (l b : List ℕ) : Type 0 where
  pub long_sheet : Long l
  pub long_results : results_long (sheet_in l).count ≤ length b

-- What is known of the rows above row k: a list of results holds their bounds, and whether each has one.
pub record RowsAbove (h : Sheet) (rs : List ℕ) (reached : Bool) (k : ℕ) : Type 0 where
  pub held : (i : ℕ) → i < k → held_in rs i ≡ bounds (result_of passes h) i
  pub all : reached ≡ all_of k (bounded (result_of passes h))

-- The loop over the rows has judged the first k: their results are put into the list that was lent, and whether each is a bound.
pub record SoFar (h : Sheet) (lent rs : List ℕ) (reached : Bool) (k : ℕ) : Type 0 where
  pub put : rs ≡ upto (results_long k) (result_cell (words h)) lent
  pub all : reached ≡ all_of k (bounded (result_of passes h))

-- Row k of a legal sheet can be judged by these bounds: each above is from C to D, and no shorter length of its row passes.
pub record Ready (h : Sheet) (R : ℕ → Duration) (k : ℕ) : Type 0 where
  pub legal : Legal h
  pub below : k < h.count
  pub low : (i : ℕ) → i < k → (row_at h i).budget ≤ (R i).0
  pub high : (i : ℕ) → i < k → (R i).0 ≤ (row_at h i).deadline
  pub smallest : (i : ℕ) → i < k → (l : ℕ) → (row_at h i).budget ≤ l → l < (R i).0 → passes h R i (slots l) ≡ false

-- A length that the test of row k is put to: from C to D.
pub record Length (h : Sheet) (k : ℕ) (L : Duration) : Type 0 where
  pub low : (row_at h k).budget ≤ L.0
  pub high : L.0 ≤ (row_at h k).deadline

-- A row above with its bound, and a length that it is looked at in.
pub record Above (row : Row) (R L : Duration) : Type 0 where
  pub at_most_threads : row.threads ≤ most_processors
  pub some_budget : 1 ≤ row.budget
  pub low : row.budget ≤ R.0
  pub high : R.0 ≤ row.separation
  pub at_most_separation : row.separation ≤ widest_separation
  pub at_most_length : L.0 ≤ widest_separation

-- A row above, and an x of it.
pub record Spans (row : Row) (span : Duration) : Type 0 where
  pub some_separation : 1 ≤ row.separation
  pub at_most_budget : row.budget ≤ row.separation
  pub at_most_separation : row.separation ≤ widest_separation
  pub at_most_span : span.0 ≤ 2 * widest_separation
