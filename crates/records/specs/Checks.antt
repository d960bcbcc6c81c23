-- The check of a release: the number and the place of the first fault.
use Rattle.basis.specs.Prelude.{ℕ, ltb, eqb}
use Rattle.basis.specs.Words.{pick}
use Rattle.basis.specs.Refusals.{Outcome, accepted, refused}
use Rattle.sheet.specs.declared.row.Row.{Row}
use Rattle.records.specs.declared.record.RowState.{RowState}

-- 12 for a release over C, then 13 for one that is too soon: since is below T.
unfoldable pub check_row : Row → RowState → ℕ → ℕ → Outcome
check_row row s release k =
    pick (eqb release 0) accepted
    (pick (ltb row.budget release) (refused 12 k)
    (pick (ltb s.job.since row.separation) (refused 13 k) accepted))
