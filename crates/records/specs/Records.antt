-- The record of a row and the job in it: whether there is a job, and the records that are legal for a row.
use Rattle.basis.specs.Prelude.{Bool, true, ltb, leb, eqb}
use Rattle.basis.specs.Words.{pick, both, within}
use Rattle.sheet.specs.declared.row.Row.{Row}
use Rattle.records.specs.declared.record.Job.{Job}
use Rattle.records.specs.declared.record.RowState.{RowState}

-- The record of this job.
abbrev pub record_of : Job → RowState
record_of j = record { job = j }

-- A job that is all zero.
abbrev pub zero_job : Job
zero_job = record { remaining = 0; since = 0 }

-- A record that is all zero.
abbrev pub no_record : RowState
no_record = record_of zero_job

-- A row has a job where something remains.
abbrev pub has_job : Job → Bool
has_job j = ltb 0 j.remaining

-- A job is legal for its row: since is 1..T; remaining is 0..C; where remaining is not 0, since is below D.
unfoldable pub legal_job : Row → Job → Bool
legal_job row j =
    both (within 1 row.separation j.since)
    (both (leb j.remaining row.budget) (pick (has_job j) (ltb j.since row.deadline) true))

-- A record is legal for its row: its job is.
abbrev pub legal_record : Row → RowState → Bool
legal_record row s = legal_job row s.job

-- A job is all zero.
unfoldable pub is_zero_job : Job → Bool
is_zero_job j = both (eqb j.remaining 0) (eqb j.since 0)

-- A record is all zero: its job is.
abbrev pub is_zero : RowState → Bool
is_zero s = is_zero_job s.job
