-- Releases, placement and ageing, each by itself, of every row: one after another they make the slot.
use Rattle.basis.specs.Prelude.{ℕ, List, get_or}
use Rattle.basis.specs.Upto.{upto}
use Rattle.sheet.specs.Legal.{row_at}
use Rattle.sheet.specs.declared.row.Sheet.{Sheet}
use Rattle.records.specs.declared.record.Job.{Job}
use Rattle.records.specs.declared.record.RowState.{RowState}
use Rattle.machine.specs.States.{State, state_of, record_at}
use Rattle.records.specs.declared.steps.Placed.{Placed}
use Rattle.records.specs.declared.steps.Aged.{Aged}
use Rattle.records.specs.Records.{record_of}
use Rattle.records.specs.Steps.{released}
use Rattle.records.specs.Methods.{placed_row, aged_row}
use Rattle.machine.specs.Slot.{free_at}

-- The job of row k.
abbrev pub job_at : State → ℕ → Job
job_at t k = (record_at t k).job

-- Step 1 of row k.
abbrev pub released_at : State → List ℕ → ℕ → RowState
released_at t releases k = record_of (released (get_or releases k 0) (job_at t k))

-- Step 1 of every row.
abbrev pub released_state : Sheet → State → List ℕ → State
released_state h t releases = state_of (upto h.count (released_at t releases) t.rows)

-- The placement of row k.
abbrev pub placed_at : Sheet → State → ℕ → Placed
placed_at h t k = placed_row (row_at h k) (job_at t k) (free_at h.processors (row_at h) (job_at t) k)

-- Its record, and its code so far.
abbrev pub placed_record : Sheet → State → ℕ → RowState
placed_record h t k = record_of (placed_at h t k).after

abbrev pub placed_code : Sheet → State → ℕ → ℕ
placed_code h t k = (placed_at h t k).code

-- Steps 2 and 3 of every row.
abbrev pub placed_state : Sheet → State → State
placed_state h t = state_of (upto h.count (placed_record h t) t.rows)

-- The codes so far: no job, waited or ran.
abbrev pub placed_codes : Sheet → State → List ℕ → List ℕ
placed_codes h t codes = upto h.count (placed_code h t) codes

-- The ageing of row k.
abbrev pub aged_at : Sheet → State → List ℕ → ℕ → Aged
aged_at h t codes k = aged_row (row_at h k) (job_at t k) (get_or codes k 0)

-- Its record, and its code.
abbrev pub aged_record : Sheet → State → List ℕ → ℕ → RowState
aged_record h t codes k = record_of (aged_at h t codes k).after

abbrev pub aged_code : Sheet → State → List ℕ → ℕ → ℕ
aged_code h t codes k = (aged_at h t codes k).code

-- Steps 4 and 5 of every row.
abbrev pub aged_state : Sheet → State → List ℕ → State
aged_state h t codes = state_of (upto h.count (aged_record h t codes) t.rows)

-- The codes of the slot.
abbrev pub aged_codes : Sheet → State → List ℕ → List ℕ
aged_codes h t codes = upto h.count (aged_code h t codes) codes
