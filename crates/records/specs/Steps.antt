-- One slot of one row, in five steps: what its job becomes, and its code.
use Rattle.std.specs.Prelude.{◌+◌, ◌-◌}
use Rattle.basis.specs.Prelude.{ℕ, Bool, ltb, leb, eqb}
use Rattle.basis.specs.Words.{pick, both}
use Rattle.sheet.specs.declared.row.Row.{Row}
use Rattle.records.specs.declared.record.Job.{Job}
use Rattle.records.specs.Records.{has_job}

-- 1. A release of 1..C slots, where it is allowed, sets remaining to that value and since to 0; zero means no release.
unfoldable pub released : ℕ → Job → Job
released release j = pick (eqb release 0) j (record { remaining = release; since = 0 })

-- 2. From the top with m free: a row with a job runs if its threads are no more than the free processors,
unfoldable pub fits : ℕ → Row → Job → Bool
fits free row j = both (has_job j) (leb row.threads free)

-- which it then takes.
unfoldable pub free_below : ℕ → Row → Job → ℕ
free_below free row j = pick (fits free row j) (free - row.threads) free

-- 3. Each running row's remaining falls by one.
unfoldable pub worked : Bool → Job → Job
worked ran j = record { remaining = pick ran (j.remaining - 1) j.remaining; since = j.since }

-- 4. Each row's since grows by one, up to T.
unfoldable pub older : ℕ → ℕ → ℕ
older separation since = pick (ltb since separation) (since + 1) separation

-- The job of a row that has grown older.
unfoldable pub aged : Row → Job → Job
aged row j = record { remaining = j.remaining; since = older row.separation j.since }

-- 5. A job with remaining 0 is finished. Else, where since equals D, it is missed
unfoldable pub missed : Row → Job → Bool
missed row j = both (has_job j) (eqb j.since row.deadline)

-- and the rest is dropped.
unfoldable pub ended : Row → Job → Job
ended row j = record { remaining = pick (missed row j) 0 j.remaining; since = j.since }

-- Codes: at its placement a row has 0 no job, 1 waited, 2 ran;
abbrev pub code_so_far : Bool → Job → ℕ
code_so_far ran j = pick (has_job j) (pick ran 2 1) 0

-- and at the end of the slot 3 where nothing is left of its job, which is finished, or else 4 where since equals D, which is missed (running or not).
abbrev pub code_at_end : ℕ → ℕ → ℕ → ℕ → ℕ
code_at_end left since deadline code = pick (eqb code 0) 0 (pick (ltb 0 left) (pick (eqb since deadline) 4 code) 3)

-- The code of a row: before is the job that the slot began with, and after is the one that it came to before anything was dropped.
unfoldable pub code_of : Row → Bool → Job → Job → ℕ
code_of row ran before after = code_at_end after.remaining after.since row.deadline (code_so_far ran before)
