-- The names from elsewhere that the proofs here share, passed on under one name.
pub use Rattle.basis.proofs.Inside.Upto.{length_upto, upto_below}
pub use Rattle.basis.proofs.Refusals.{outcome_one_to_one}
pub use Rattle.basis.specs.Limits.{most_rows}
pub use Rattle.basis.specs.Refusals.{Outcome, accepted, outcome, refused}
unfoldable pub use Rattle.basis.specs.Refusals.{first_of}
unfoldable pub use Rattle.basis.specs.Upto.{upto}
unfoldable pub use Rattle.basis.specs.Words.{all_of}
pub use Rattle.machine.proofs.Inside.Answers.{slot_shows}
pub use Rattle.machine.proofs.StatesAfter.{fresh_of_zeros, slot_in_state}
pub use Rattle.machine.specs.Answers.{FreshAnswer, RunAnswer, SlotAnswer, entries_of, run_answer, slot_answer, slot_by}
unfoldable pub use Rattle.machine.specs.Answers.{course, fresh, given, next_codes, next_state, onward, run, slot, slot_at}
unfoldable pub use Rattle.machine.specs.Checks.{check_releases, check_room, check_run, check_slot, check_state}
pub use Rattle.machine.specs.Lists.{state_long}
unfoldable pub use Rattle.machine.specs.Lists.{fresh_on, put_record, put_state, put_to, record_in, slot_in, state_in, zero_at, zero_from}
pub use Rattle.machine.specs.Slot.{code}
unfoldable pub use Rattle.machine.specs.Slot.{free_at}
pub use Rattle.machine.specs.States.{State}
pub use Rattle.page.proofs.Digits.{decimal_is_short}
pub use Rattle.page.proofs.Inside.Pages.{four_said, said_is_written, three_said, two_said}
pub use Rattle.page.proofs.Inside.Written.{part_is_text, written_in_room}
unfoldable pub use Rattle.page.specs.Decimals.{decimal, digits}
pub use Rattle.page.specs.Pages.{Page}
unfoldable pub use Rattle.page.specs.Pages.{said, written}
pub use Rattle.page.specs.Words.{newline, space}
unfoldable pub use Rattle.records.specs.Checks.{check_row}
pub use Rattle.records.specs.Records.{has_job}
unfoldable pub use Rattle.records.specs.Records.{is_zero_job, legal_job}
unfoldable pub use Rattle.records.specs.Steps.{aged, code_of, ended, fits, free_below, missed, older, released, worked}
pub use Rattle.records.specs.declared.record.Job.{Job}
unfoldable pub use Rattle.sheet.specs.Legal.{legal, legal_at, legal_row}
unfoldable pub use Rattle.sheet.specs.Lists.{row_in, sheet_in}
pub use Rattle.sheet.specs.declared.row.Row.{Row}
pub use Rattle.sheet.specs.declared.row.Sheet.{Sheet}
unfoldable pub use Rattle.tables.specs.Tables.{fixed_sheet}
pub use Rattle.watch.specs.Lines.{scenario_word, sheet_word, slots_word}
unfoldable pub use Rattle.watch.specs.Lines.{codes_text, end_line, file_name, refused_by, refused_file, refused_slot, slot_line, slot_number}
pub use Rattle.watch.specs.Longest.{line_buffer, line_size}
pub use Rattle.watch.specs.Texts.{PlayAnswer, going_on, no_codes, play_answer}
unfoldable pub use Rattle.watch.specs.Texts.{answer_text, last_line, line_of, lines_of, played_slot, played_text, run_text}
pub use Rattle.watch.specs.declared.ends.File.{File}
