-- The names from elsewhere that the proofs here share, passed on under one name.
pub use Rattle.basis.proofs.Inside.Tests.{tests}
pub use Rattle.basis.specs.Refusals.{accepted, outcome, refused}
pub use Rattle.basis.specs.Words.{both, pick}
unfoldable pub use Rattle.records.specs.Checks.{check_row}
unfoldable pub use Rattle.records.specs.Methods.{aged_row, begun_row, placed_row, stepped_row}
pub use Rattle.records.specs.Records.{has_job, legal_record}
unfoldable pub use Rattle.records.specs.Records.{legal_job}
pub use Rattle.records.specs.Steps.{code_at_end}
unfoldable pub use Rattle.records.specs.Steps.{aged, code_of, ended, fits, free_below, missed, older, released, worked}
pub use Rattle.records.specs.declared.record.Job.{Job}
pub use Rattle.records.specs.declared.record.RowState.{RowState}
pub use Rattle.records.specs.declared.steps.Aged.{Aged}
pub use Rattle.records.specs.declared.steps.Placed.{Placed}
pub use Rattle.sheet.specs.declared.row.Row.{Row}
