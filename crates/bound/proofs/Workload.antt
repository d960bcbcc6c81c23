-- The workload W is that of basis: it never falls, grows by one with each slot in which its present job runs, and is no less than its share. Assumes nothing.
use Rattle.basis.specs.Prelude.{ℕ, ◌+◌, ◌-◌, ◌*◌, ◌%◌, ◌≤◌, min}
use Rattle.basis.specs.Workload.{ω}
use Rattle.bound.proofs.Names.{ω_mono, ω_runs_on, ω_shares, ω_evenly, ω_least, Row, slots, W}

module _ (row : Row) (pos : 1 ≤ row.separation) (fits : row.budget ≤ row.separation) where
  pub W_mono : (x y : ℕ) → x ≤ y → (W row (slots x)).0 ≤ (W row (slots y)).0
  unfolding W ω
  W_mono x y h = ω_mono row.budget row.separation pos fits x y h

  -- it is no less than one budget, or all slots if these are fewer
  pub W_least : (x : ℕ) → min row.budget x ≤ (W row (slots x)).0
  unfolding W ω
  W_least x = ω_least row.budget row.separation pos fits x

  -- what d slots more add at least: those that the present job is still to run
  pub W_runs_on : (x d : ℕ) → (W row (slots x)).0 + min d (row.budget - x % row.separation) ≤ (W row (slots (x + d))).0
  unfolding W ω
  W_runs_on x d = ω_runs_on row.budget row.separation pos fits x d

  -- it is no less than the budget of every separation
  pub W_shares : (x : ℕ) → x * row.budget ≤ (W row (slots x)).0 * row.separation
  unfolding W ω
  W_shares x = ω_shares row.budget row.separation pos fits x

  -- within one separation it is above the straight line between two of its values
  pub W_evenly : (x c d : ℕ) → x % row.separation + (c + d) ≤ row.separation → c * (W row (slots x)).0 + d * (W row (slots (x + (c + d)))).0 ≤ (c + d) * (W row (slots (x + d))).0
  unfolding W ω
  W_evenly x c d h = ω_evenly row.budget row.separation pos fits x c d h
