-- The names from elsewhere that the proofs here share, passed on under one name.
pub use Rattle.basis.proofs.Inside.Upto.{length_upto, upto_agree, upto_below, upto_over, upto_read, upto_set}
pub use Rattle.basis.specs.Limits.{most_rows}
pub use Rattle.basis.specs.Refusals.{Outcome, outcome}
unfoldable pub use Rattle.basis.specs.Upto.{upto}
pub use Rattle.basis.specs.declared.refusal.Refusal.{Refusal}
pub use Rattle.machine.proofs.Inside.RecordLists.{put_more, records_all, spare_of_full, state_put, state_rows_long}
pub use Rattle.machine.specs.Answers.{FreshAnswer, MarginAnswer, fresh_answer, margin_answer, run_answer}
unfoldable pub use Rattle.machine.specs.Answers.{fresh, given, margin, next_codes, next_state, run, slot}
unfoldable pub use Rattle.machine.specs.Checks.{check_run, check_slot}
pub use Rattle.machine.specs.Lists.{ran_in, record_wide, state_long}
unfoldable pub use Rattle.machine.specs.Lists.{fresh_on, put_record, put_to, record_in, run_in, state_in}
pub use Rattle.machine.specs.Slot.{begun, code, free, next, runs}
unfoldable pub use Rattle.machine.specs.Slot.{free_at}
pub use Rattle.machine.specs.States.{State, no_state, record_at, state_of}
unfoldable pub use Rattle.records.specs.Methods.{aged_row, placed_row}
pub use Rattle.records.specs.Records.{no_record, record_of}
unfoldable pub use Rattle.records.specs.Steps.{worked}
pub use Rattle.records.specs.declared.record.RowState.{RowState}
pub use Rattle.records.specs.declared.steps.Aged.{Aged}
pub use Rattle.records.specs.declared.steps.Placed.{Placed}
pub use Rattle.sheet.proofs.Inside.Cells.{unmapped}
pub use Rattle.sheet.specs.Legal.{row_at}
pub use Rattle.sheet.specs.declared.row.Sheet.{Sheet}
pub use Rattle.states.specs.Inside.Methods.{aged_at, aged_code, aged_codes, aged_record, aged_state, job_at, placed_at, placed_code, placed_codes, placed_record, placed_state, released_at, released_state}
pub use Rattle.states.specs.Values.{held, ran, slotted, started}
