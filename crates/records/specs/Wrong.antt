-- Wrong rules for one row, each that of 01 but for one thing, and the rows and records that tell them apart.
use Rattle.std.specs.Prelude.{◌+◌, ◌-◌}
use Rattle.basis.specs.Prelude.{ℕ, Bool, true, ltb, leb, eqb}
use Rattle.basis.specs.Words.{pick, both, within}
use Rattle.basis.specs.Refusals.{Outcome, accepted, refused}
use Rattle.sheet.specs.declared.row.Row.{Row}
use Rattle.records.specs.declared.record.Job.{Job}
use Rattle.records.specs.declared.record.RowState.{RowState}
use Rattle.records.specs.declared.steps.Placed.{Placed}
use Rattle.records.specs.declared.steps.Aged.{Aged}
use Rattle.records.specs.Records.{record_of, has_job}
use Rattle.records.specs.Steps.{released, fits, free_below, aged, ended, code_of}
use Rattle.records.specs.Methods.{placed_row, aged_row, begun_row}

-- Row 0 of sheet C.
abbrev pub upper_c : Row
upper_c = record { threads = 2; separation = 2; deadline = 2; budget = 1 }

-- Row 1 of sheet C.
abbrev pub lower_c : Row
lower_c = record { threads = 1; separation = 4; deadline = 4; budget = 3 }

-- A row whose deadline comes before its separation: (1,4,2,1).
abbrev pub early : Row
early = record { threads = 1; separation = 4; deadline = 2; budget = 1 }

-- A job by its two numbers.
abbrev pub job_of : ℕ → ℕ → Job
job_of remaining since = record { remaining = remaining; since = since }

-- A record by the two numbers of its job.
abbrev pub rec : ℕ → ℕ → RowState
rec remaining since = record_of (job_of remaining since)

-- 13 comes before 12.
unfoldable pub thirteen_first : Row → RowState → ℕ → ℕ → Outcome
thirteen_first row s release k =
    pick (eqb release 0) accepted
    (pick (ltb s.job.since row.separation) (refused 13 k)
    (pick (ltb row.budget release) (refused 12 k) accepted))

-- A release is too soon before the deadline, and not before the separation.
unfoldable pub soon_by_deadline : Row → RowState → ℕ → ℕ → Outcome
soon_by_deadline row s release k =
    pick (eqb release 0) accepted
    (pick (ltb row.budget release) (refused 12 k)
    (pick (ltb s.job.since row.deadline) (refused 13 k) accepted))

-- A release is allowed one slot before its separation.
unfoldable pub one_soon : Row → RowState → ℕ → ℕ → Outcome
one_soon row s release k =
    pick (eqb release 0) accepted
    (pick (ltb row.budget release) (refused 12 k)
    (pick (ltb (s.job.since + 1) row.separation) (refused 13 k) accepted))

-- A job at its deadline is legal.
unfoldable pub late_is_legal : Row → RowState → Bool
late_is_legal row s =
    both (within 1 row.separation s.job.since)
    (both (leb s.job.remaining row.budget) (pick (has_job s.job) (leb s.job.since row.deadline) true))

-- No slot since the release is legal.
unfoldable pub no_slot_is_legal : Row → RowState → Bool
no_slot_is_legal row s =
    both (within 0 row.separation s.job.since)
    (both (leb s.job.remaining row.budget) (pick (has_job s.job) (ltb s.job.since row.deadline) true))

-- The release is lost.
abbrev pub release_lost : ℕ → Job → Job
release_lost release j = j

-- A release leaves since as it was.
unfoldable pub since_kept : ℕ → Job → Job
since_kept release j = pick (eqb release 0) j (job_of release j.since)

-- Every job runs: the free processors are left as they were.
unfoldable pub every_job_runs : Row → Job → ℕ → Placed
every_job_runs row j free = record { free = free; after = (placed_row row j free).after; code = (placed_row row j free).code }

-- Nothing is free below a row that does not fit.
unfoldable pub stops_at_unfit : Row → Job → ℕ → Placed
stops_at_unfit row j free =
    record {
      free = pick (has_job j) (pick (fits free row j) (free - row.threads) 0) free;
      after = (placed_row row j free).after;
      code = (placed_row row j free).code;
    }

-- A miss is judged before the finish of the same slot.
unfoldable pub missed_first : Row → Job → ℕ → Aged
missed_first row j code =
    record {
      after = (aged_row row j code).after;
      code = pick (eqb code 0) 0 (pick (eqb (aged row j).since row.deadline) 4 (pick (ltb 0 j.remaining) code 3));
    }

-- The rest of a missed job is not dropped.
unfoldable pub rest_kept : Row → Job → ℕ → Aged
rest_kept row j code = record { after = aged row j; code = (aged_row row j code).code }

-- Since goes on past the separation.
unfoldable pub since_goes_on : Row → Job → ℕ → Aged
since_goes_on row j code = record { after = job_of j.remaining (j.since + 1); code = (aged_row row j code).code }

-- All steps but the release.
unfoldable pub stepped_unreleased : Row → Job → ℕ → ℕ → Placed
stepped_unreleased row j release free = begun_row row j free

-- All steps, but a row that runs does no work.
unfoldable pub stepped_idle : Row → Job → ℕ → ℕ → Placed
stepped_idle row j release free =
    record {
      free = free_below free row (released release j);
      after = ended row (aged row (released release j));
      code = code_of row (fits free row (released release j)) (released release j) (aged row (released release j));
    }
