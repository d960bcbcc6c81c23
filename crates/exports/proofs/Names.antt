-- The names from elsewhere that the proofs here share, passed on under one name.
pub use Rattle.basis.proofs.Faults.{apart, values_apart}
pub use Rattle.basis.proofs.Refusals.{handed_done, handed_found, handed_outcome, or_nothing, room_holds}
pub use Rattle.basis.specs.Faults.{NoneMeets}
pub use Rattle.basis.specs.Lent.{written_told}
pub use Rattle.basis.specs.Limits.{most_rows}
pub use Rattle.basis.specs.Readers.{Step, ok, refuse}
unfoldable pub use Rattle.basis.specs.Readers.{begins}
pub use Rattle.basis.specs.Refusals.{Outcome, accepted, handed, is_accepted, needed, or_else, outcome, refused, room_for}
unfoldable pub use Rattle.basis.specs.Refusals.{first_of}
unfoldable pub use Rattle.basis.specs.Upto.{pair_cell, upto}
pub use Rattle.basis.specs.Words.{pick}
unfoldable pub use Rattle.basis.specs.Words.{all_of, sum}
pub use Rattle.basis.specs.declared.refusal.Refusal.{Refusal}
pub use Rattle.bound.specs.Bound.{bounds_of}
unfoldable pub use Rattle.bound.specs.Bound.{bound_by, bounds_by, holds, judge, least, result_of, results_to}
pub use Rattle.bound.specs.Lists.{results_long}
unfoldable pub use Rattle.bound.specs.Lists.{bounds_on, result_cell, results_on}
pub use Rattle.dashboard.proofs.Buffers.{verdict_is_printed, written_part}
unfoldable pub use Rattle.dashboard.specs.Texts.{verdict_text}
pub use Rattle.exports.specs.Answers.{flag, label_outcome, lent_told, slot_told, told}
unfoldable pub use Rattle.exports.specs.Answers.{bounds_in, fields_in, fresh_in, label_answer, margin_given, margin_in, read_in, results_in, run_on, slot_on, verdict_in}
pub use Rattle.exports.specs.Further.{box_by, state_cell}
unfoldable pub use Rattle.exports.specs.Further.{box_of, box_on, fixed_in, number_on, step_told, up_to_on}
unfoldable pub use Rattle.exports.specs.Scenarios.{scenario_read, scenario_written}
unfoldable pub use Rattle.exports.specs.Sheets.{labels_by, labels_on, sheet_written}
pub use Rattle.green.specs.Demand.{InTime, NoJobIsLate}
pub use Rattle.machine.specs.Answers.{MarginAnswer, RunAnswer, fresh_answer, margin_is, margin_answer, no_job, refused_margin, run_answer, slot_answer, slot_by}
unfoldable pub use Rattle.machine.specs.Answers.{course, fresh, given, margin, margin_at, next_codes, next_state, onward, run, slot, slot_at}
unfoldable pub use Rattle.machine.specs.Checks.{check_margin, check_releases, check_room, check_run, check_slot, check_state}
pub use Rattle.machine.specs.Lists.{ran_in, slot_listed, state_long}
unfoldable pub use Rattle.machine.specs.Lists.{fresh_on, put_record, put_state, put_to, record_in, run_in, slot_in, state_in, zero_at, zero_from}
unfoldable pub use Rattle.machine.specs.Slot.{free_at}
pub use Rattle.machine.specs.States.{State, record_at}
unfoldable pub use Rattle.machine.specs.States.{fresh_state, legal_state}
pub use Rattle.numbers.specs.Numbers.{number, up_to}
unfoldable pub use Rattle.numbers.specs.Numbers.{groups, up_to_by}
pub use Rattle.page.specs.Pages.{Page}
unfoldable pub use Rattle.page.specs.Pages.{written}
pub use Rattle.reader.proofs.Inside.ZeroLists.{lists, rows_few, rows_long}
pub use Rattle.reader.proofs.LegalSheets.{accepted_is_legal}
pub use Rattle.reader.specs.Answers.{reading}
unfoldable pub use Rattle.reader.specs.Answers.{label_in}
unfoldable pub use Rattle.records.specs.Checks.{check_row}
pub use Rattle.records.specs.Records.{no_record}
unfoldable pub use Rattle.records.specs.Records.{is_zero_job, legal_job}
unfoldable pub use Rattle.records.specs.Steps.{aged, code_of, ended, fits, free_below, missed, older, released, worked}
pub use Rattle.scenario.specs.Answers.{read_told}
unfoldable pub use Rattle.scenario.specs.Answers.{read_scenario, write_scenario}
pub use Rattle.sheet.proofs.Inside.Cells.{cell_past}
pub use Rattle.sheet.proofs.Inside.FilledLists.{fill_done, zeros, zeros_long}
unfoldable pub use Rattle.sheet.specs.Legal.{legal, legal_at, legal_row}
pub use Rattle.sheet.specs.Lists.{number_at, sheet_cell, sheet_long}
unfoldable pub use Rattle.sheet.specs.Lists.{cleared_cell, filled, list_cell, row_cell, row_in, sheet_in}
pub use Rattle.sheet.specs.declared.row.Sheet.{Sheet}
pub use Rattle.states.specs.Values.{held, ran}
unfoldable pub use Rattle.tables.specs.Tables.{fixed_sheet}
unfoldable pub use Rattle.writer.specs.Answers.{write_sheet}
