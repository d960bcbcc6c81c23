-- The state of a box: a record for each row, the fresh state, and the states that are legal for a sheet.
use Rattle.basis.specs.Prelude.{ℕ, Bool, List, get_or, replicate, ltb}
use Rattle.basis.specs.Limits.{most_rows}
use Rattle.basis.specs.Words.{pick, all_of}
use Rattle.basis.specs.Upto.{upto}
use Rattle.sheet.specs.Legal.{row_at}
use Rattle.sheet.specs.declared.row.Sheet.{Sheet}
use Rattle.records.specs.declared.record.RowState.{RowState}
use Rattle.records.specs.Records.{record_of, no_record, legal_record, is_zero}

-- The state of a box: a record for each row.
pub record State : Type 0 where
  pub rows : List RowState

-- The state of these records.
abbrev pub state_of : List RowState → State
state_of records = record { rows = records }

-- The record of row k.
abbrev pub record_at : State → ℕ → RowState
record_at t k = get_or t.rows k no_record

-- The state of which every record is zero.
abbrev pub no_state : State
no_state = state_of (replicate most_rows no_record)

-- Fresh: each row without a job, T slots since release.
abbrev pub fresh_at : Sheet → ℕ → RowState
fresh_at h k = record_of (record { remaining = 0; since = (row_at h k).separation })

-- The fresh state: each row is fresh, and the records past them are zero.
unfoldable pub fresh_state : Sheet → State
fresh_state h = state_of (upto h.count (fresh_at h) (replicate most_rows no_record))

-- Record k is legal for a sheet: for its row, and past row n it is zero.
unfoldable pub legal_record_at : Sheet → State → ℕ → Bool
legal_record_at h t k = pick (ltb k h.count) (legal_record (row_at h k) (record_at t k)) (is_zero (record_at t k))

-- A state is legal for a sheet: each of its records is.
unfoldable pub legal_state : Sheet → State → Bool
legal_state h t = all_of most_rows (legal_record_at h t)
