-- One slot, in five steps, over any number of rows: what each row becomes, and its code.
use Rattle.basis.specs.Prelude.{ℕ, zero, suc, Bool}
use Rattle.sheet.specs.declared.row.Row.{Row}
use Rattle.records.specs.declared.record.Job.{Job}
use Rattle.records.specs.declared.record.RowState.{RowState}
use Rattle.records.specs.Records.{record_of}
use Rattle.records.specs.Steps.{released, fits, free_below, worked, aged, ended, code_of}

-- A row that doesn't fit waits, and rows below it may still run: the processors free at row k.
unfoldable pub free_at : ℕ → (ℕ → Row) → (ℕ → Job) → ℕ → ℕ
free_at m rows jobs zero = m
free_at m rows jobs (suc k) = free_below (free_at m rows jobs k) (rows k) (jobs k)

-- What a slot is given: the processors, and of each row its numbers, its record and its release.
pub record Given : Type 0 where
  pub processors : ℕ
  pub rows : ℕ → Row
  pub records : ℕ → RowState
  pub releases : ℕ → ℕ

-- The job of row k after step 1.
abbrev pub begun : Given → ℕ → Job
begun g k = released (g.releases k) (g.records k).job

-- The processors free at row k, in step 2.
abbrev pub free : Given → ℕ → ℕ
free g k = free_at g.processors g.rows (begun g) k

-- Row k runs.
abbrev pub runs : Given → ℕ → Bool
runs g k = fits (free g k) (g.rows k) (begun g k)

-- The job of row k after steps 3 and 4.
abbrev pub reached : Given → ℕ → Job
reached g k = aged (g.rows k) (worked (runs g k) (begun g k))

-- The record of row k after step 5: the next one.
abbrev pub next : Given → ℕ → RowState
next g k = record_of (ended (g.rows k) (reached g k))

-- The code of row k.
abbrev pub code : Given → ℕ → ℕ
code g k = code_of (g.rows k) (runs g k) (begun g k) (reached g k)
