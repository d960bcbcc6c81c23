-- The names from elsewhere that the proofs here share, passed on under one name.
pub use Rattle.basis.proofs.Inside.Sums.{sum_le, sum_same}
pub use Rattle.basis.proofs.Inside.Upto.{upto_below}
pub use Rattle.basis.proofs.Inside.Words.{all_at, lt_or_le, true_not_false}
pub use Rattle.basis.specs.Limits.{most_rows}
pub use Rattle.basis.specs.Refusals.{Outcome, accepted, refused}
unfoldable pub use Rattle.basis.specs.Refusals.{first_of}
unfoldable pub use Rattle.basis.specs.Upto.{upto}
pub use Rattle.basis.specs.Words.{Each, both, pick}
unfoldable pub use Rattle.basis.specs.Words.{all_of, sum}
unfoldable pub use Rattle.basis.specs.Workload.{ω}
pub use Rattle.bound.proofs.Inside.Judging.{bound_all, passes_local}
pub use Rattle.bound.specs.Bound.{Word, bound, bounded, bounds, is_bound, value_of}
unfoldable pub use Rattle.bound.specs.Bound.{bound_by, holds, judge, least, result_of, results_to}
unfoldable pub use Rattle.bound.specs.Test.{passes}
pub use Rattle.green.specs.Calls.{Call, Done, a_run, fresh_of, one_slot, slot_done, slots_of, state_after}
unfoldable pub use Rattle.green.specs.Calls.{history, run_done, state_after_all}
pub use Rattle.green.specs.Demand.{Bounded, FinishedWithin, InTime, NoJobIsLate, NoJobIsLateTo, code_in, release_in}
unfoldable pub use Rattle.green.specs.Green.{green_of}
pub use Rattle.green.specs.Inside.Model.{Busy, Moment, Passes, Ranges, Reached, Rows, Safe, Slot}
unfoldable pub use Rattle.green.specs.Inside.Model.{W, X, age, g, owed, q, tally}
pub use Rattle.green.specs.Lent.{LentSlots, box_done, none, one_more}
pub use Rattle.green.specs.Tight.{tight}
pub use Rattle.green.specs.Wrong.{StuckSlots, always_green, both_released, bytes_c, bytes_d, never_green, no_more, once_more, one_slot_ran, slots_all, slots_once, stuck, too_soon, two_ones}
unfoldable pub use Rattle.green.specs.Wrong.{at_most, box_swapped, green_if_read, history_by, long_x, short_w, wide_q}
pub use Rattle.machine.proofs.Inside.LegalSlots.{next_at}
pub use Rattle.machine.proofs.Inside.Legals.{LegalState, legal_state_is}
pub use Rattle.machine.specs.Answers.{RunAnswer, SlotAnswer, entries_of, run_answer, slot_answer, slot_by}
unfoldable pub use Rattle.machine.specs.Answers.{course, fresh, given, margin_of, next_codes, next_state, onward, run, slot, slot_at}
pub use Rattle.machine.specs.Checks.{check_at}
unfoldable pub use Rattle.machine.specs.Checks.{check_releases, check_room, check_run, check_slot, check_state}
pub use Rattle.machine.specs.Slot.{begun, code, free, reached, runs}
unfoldable pub use Rattle.machine.specs.Slot.{free_at}
pub use Rattle.machine.specs.States.{State, fresh_at, record_at}
unfoldable pub use Rattle.machine.specs.States.{fresh_state, legal_state}
pub use Rattle.records.proofs.Inside.Codes.{code_is, four_says, goes_on}
pub use Rattle.records.proofs.Inside.Records.{ended_else, ended_less, older_below, older_full, release_allowed}
unfoldable pub use Rattle.records.specs.Checks.{check_row}
pub use Rattle.records.specs.Records.{no_record}
unfoldable pub use Rattle.records.specs.Records.{is_zero_job, legal_job}
unfoldable pub use Rattle.records.specs.Steps.{aged, code_of, ended, fits, free_below, missed, older, released, worked}
pub use Rattle.records.specs.declared.record.Job.{Job}
pub use Rattle.records.specs.declared.record.RowState.{RowState}
pub use Rattle.sheet.specs.Legal.{Legal, row_at}
unfoldable pub use Rattle.sheet.specs.Legal.{legal, legal_at, legal_row}
pub use Rattle.sheet.specs.declared.row.Row.{Row}
pub use Rattle.sheet.specs.declared.row.Sheet.{Sheet}
pub use Rattle.tables.specs.Tables.{sheet_a, sheet_b, sheet_d, sheet_e, sheet_f}
