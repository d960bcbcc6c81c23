-- What the methods of a job answer: placement, ageing, and all steps of a row together.
use Rattle.basis.specs.Prelude.{ℕ}
use Rattle.sheet.specs.declared.row.Row.{Row}
use Rattle.records.specs.declared.record.Job.{Job}
use Rattle.records.specs.declared.steps.Placed.{Placed}
use Rattle.records.specs.declared.steps.Aged.{Aged}
use Rattle.records.specs.Steps.{released, fits, free_below, worked, aged, ended, code_so_far, code_at_end, code_of}

-- Steps 2 and 3 of a row, with so many processors free: what it leaves free, its job, and its code so far.
unfoldable pub placed_row : Row → Job → ℕ → Placed
placed_row row j free =
    record {
      free = free_below free row j;
      after = worked (fits free row j) j;
      code = code_so_far (fits free row j) j;
    }

-- Steps 4 and 5 of a row, with its code so far: its job, and its code.
unfoldable pub aged_row : Row → Job → ℕ → Aged
aged_row row j code =
    record {
      after = ended row (aged row j);
      code = code_at_end j.remaining (aged row j).since row.deadline code;
    }

-- All steps of a row that has begun its slot with this job, with so many processors free.
unfoldable pub begun_row : Row → Job → ℕ → Placed
begun_row row j free =
    record {
      free = free_below free row j;
      after = ended row (aged row (worked (fits free row j) j));
      code = code_of row (fits free row j) j (aged row (worked (fits free row j) j));
    }

-- All steps of a row, from its release on.
unfoldable pub stepped_row : Row → Job → ℕ → ℕ → Placed
stepped_row row j release free = begun_row row (released release j) free
