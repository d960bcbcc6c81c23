-- The names from elsewhere that the proofs here share, passed on under one name.
pub use Rattle.basis.proofs.Inside.FirstRefusal.{both_accepted, first_at, first_found, first_more, first_same}
pub use Rattle.basis.proofs.Inside.Lists.{get_d_all}
pub use Rattle.basis.proofs.Inside.Upto.{length_upto, upto_agree, upto_below, upto_none, upto_past, upto_set}
pub use Rattle.basis.proofs.Inside.Words.{all_at, all_one_more, all_same, all_true, at_least, at_most, both_left, both_right, both_true, lt_or_le, true_not_false, within_true}
pub use Rattle.basis.proofs.Refusals.{needed_holds, outcome_one_to_one}
pub use Rattle.basis.specs.Limits.{most_rows, most_separation}
pub use Rattle.basis.specs.Refusals.{Outcome, accepted, is_accepted, needed, or_else, outcome, refused}
unfoldable pub use Rattle.basis.specs.Refusals.{first_of}
unfoldable pub use Rattle.basis.specs.Upto.{upto}
pub use Rattle.basis.specs.Words.{pick, within}
unfoldable pub use Rattle.basis.specs.Words.{all_of, sum}
pub use Rattle.basis.specs.declared.refusal.Refusal.{Refusal}
pub use Rattle.machine.specs.Answers.{FreshAnswer, MarginAnswer, RunAnswer, SlotAnswer, entries_of, fresh_answer, margin_is, margin_answer, margin_by, no_job, refused_margin, run_answer, slot_answer, slot_by}
unfoldable pub use Rattle.machine.specs.Answers.{course, fresh, given, margin, margin_at, margin_of, next_codes, next_state, onward, run, slot, slot_at}
pub use Rattle.machine.specs.Checks.{check_at}
unfoldable pub use Rattle.machine.specs.Checks.{check_margin, check_releases, check_room, check_run, check_slot, check_state}
pub use Rattle.machine.specs.Lists.{cleared, ran_in, record_wide, slot_listed, spare_is_zero, state_long}
unfoldable pub use Rattle.machine.specs.Lists.{fresh_on, put_record, put_state, put_to, record_in, run_in, slot_in, state_in, zero_at, zero_from}
pub use Rattle.machine.specs.Slot.{Given, begun, code, free, next, runs}
unfoldable pub use Rattle.machine.specs.Slot.{free_at}
pub use Rattle.machine.specs.States.{State, fresh_at, no_state, record_at, state_of}
unfoldable pub use Rattle.machine.specs.States.{fresh_state, legal_record_at, legal_state}
pub use Rattle.machine.specs.declared.places.Done.{Done}
pub use Rattle.records.proofs.Inside.Records.{ended_at, ended_else, ended_less, older_below, older_within, release_allowed, released_none, released_some, worked_near, worked_none, worked_one}
unfoldable pub use Rattle.records.specs.Checks.{check_row}
pub use Rattle.records.specs.Records.{has_job, is_zero, legal_record, no_record, record_of}
unfoldable pub use Rattle.records.specs.Records.{is_zero_job, legal_job}
unfoldable pub use Rattle.records.specs.Steps.{aged, code_of, ended, fits, free_below, missed, older, released, worked}
pub use Rattle.records.specs.declared.record.Job.{Job}
pub use Rattle.records.specs.declared.record.RowState.{RowState}
pub use Rattle.sheet.proofs.Inside.FilledLists.{filled_read, length_filled}
pub use Rattle.sheet.proofs.Legality.{legal_is}
pub use Rattle.sheet.proofs.Ranges.{legal_sheet_long, not_so}
pub use Rattle.sheet.specs.Legal.{Legal, LegalRow, no_row, row_at}
unfoldable pub use Rattle.sheet.specs.Legal.{legal, legal_at, legal_row}
pub use Rattle.sheet.specs.Lists.{number_at}
unfoldable pub use Rattle.sheet.specs.Lists.{cleared_cell, filled, row_in, sheet_in}
pub use Rattle.sheet.specs.declared.row.Row.{Row}
pub use Rattle.sheet.specs.declared.row.Sheet.{Sheet}
pub use Rattle.tables.specs.Tables.{sheet_b, sheet_c, sheet_f}
unfoldable pub use Rattle.tables.specs.Tables.{fixed_sheet}
