-- The ranges of a sheet that is handed over.
use Rattle.std.specs.Prelude.{◌≤◌, ◌<◌, ◌≡◌}
use Rattle.basis.specs.Prelude.{ℕ, Bool, get_or}
use Rattle.basis.specs.Limits.{most_processors, most_rows, most_separation}
use Rattle.basis.specs.Words.{both, within, all_of}
use Rattle.sheet.specs.declared.row.Row.{Row}
use Rattle.sheet.specs.declared.row.Sheet.{Sheet}

-- A row that is not there: all zero.
abbrev pub no_row : Row
no_row = record { threads = 0; separation = 0; deadline = 0; budget = 0 }

-- Row i of a sheet.
abbrev pub row_at : Sheet → ℕ → Row
row_at h i = get_or h.rows i no_row

-- Threads 1..m, separation 1..1,000,000, deadline 1..T, budget 1..D.
unfoldable pub legal_row : ℕ → Row → Bool
legal_row m row =
    both (within 1 m row.threads)
    (both (within 1 most_separation row.separation) (both (within 1 row.separation row.deadline) (within 1 row.deadline row.budget)))

-- Row i of a sheet is in the ranges.
unfoldable pub legal_at : Sheet → ℕ → Bool
legal_at h i = legal_row h.processors (row_at h i)

-- Processors 1..64, rows 1..32, and each of the n rows is in the ranges; rows past n are not looked at.
unfoldable pub legal : Sheet → Bool
legal h = both (within 1 most_processors h.processors) (both (within 1 most_rows h.count) (all_of h.count (legal_at h)))

-- Rows past n are zero.
abbrev pub ZeroPast : Sheet → Type 0
ZeroPast h = (i : ℕ) → h.count ≤ i → row_at h i ≡ no_row

-- The same as facts: a row in the ranges on m processors.
pub record LegalRow (m : ℕ) (row : Row) : Type 0 where
  pub some_threads : 1 ≤ row.threads
  pub at_most_threads : row.threads ≤ m
  pub some_separation : 1 ≤ row.separation
  pub at_most_separation : row.separation ≤ most_separation
  pub some_deadline : 1 ≤ row.deadline
  pub at_most_deadline : row.deadline ≤ row.separation
  pub some_budget : 1 ≤ row.budget
  pub at_most_budget : row.budget ≤ row.deadline

-- A sheet in the ranges.
pub record Legal (h : Sheet) : Type 0 where
  pub some_processors : 1 ≤ h.processors
  pub at_most_processors : h.processors ≤ most_processors
  pub some_rows : 1 ≤ h.count
  pub at_most_rows : h.count ≤ most_rows
  pub rows : (i : ℕ) → i < h.count → LegalRow h.processors (row_at h i)
