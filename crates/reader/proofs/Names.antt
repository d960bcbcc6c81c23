-- The names from elsewhere that the proofs here share, passed on under one name.
pub use Rattle.basis.proofs.Inside.Pairs.{first_cell, first_read, pair_stored, pair_zero, pairs_agree, second_cell, second_read}
pub use Rattle.basis.proofs.Inside.Steps.{after_ok, byte_ok, end_ok, end_stays, enough_ok, got, map_step_after, map_step_no, map_step_ok, marked_ok, ok_same, passed}
pub use Rattle.basis.proofs.Inside.Upto.{length_upto, upto_agree, upto_below, upto_long, upto_none, upto_over, upto_room, upto_set, upto_whole}
pub use Rattle.basis.proofs.Inside.Words.{lt_or_le}
pub use Rattle.basis.proofs.Refusals.{handed_done, handed_found, handed_outcome, or_nothing, outcome_one_to_one, passed_on, refused_by_one_to_one, room_holds}
pub use Rattle.basis.specs.Limits.{longest_label, most_groups, most_processors, most_rows, most_separation}
pub use Rattle.basis.specs.Readers.{Reader, Step, step, passed_step, ◌>>=◌, after, byte, end, enough, give, marked, ok, refuse}
unfoldable pub use Rattle.basis.specs.Readers.{begins, map_step}
pub use Rattle.basis.specs.Refusals.{Outcome, accepted, handed, or_else, outcome, refused, refused_by, room_for, told}
unfoldable pub use Rattle.basis.specs.Upto.{pair_cell, upto}
pub use Rattle.numbers.proofs.Inside.Bounds.{bounded}
pub use Rattle.numbers.proofs.Encoding.{ranged_is}
pub use Rattle.numbers.specs.Numbers.{up_to}
unfoldable pub use Rattle.numbers.specs.Numbers.{groups, spelt, up_to_by, width}
pub use Rattle.reader.specs.Answers.{no_parts, nowhere, outcome_and_sheet, part, part_after, reading, reading_of, rows_read, sheet_held, shown}
unfoldable pub use Rattle.reader.specs.Answers.{label_in, labels_in}
pub use Rattle.reader.specs.Cases.{first_pump, second_pump, two_pumps}
pub use Rattle.reader.specs.Form.{Entry, Head, Held, body, entries, entry, entry_label, entry_row, head, is_plain, label, mark_bytes, sheet}
unfoldable pub use Rattle.reader.specs.Form.{body_by, entries_by, entry_by, head_by, label_by, label_head, plain, sheet_by}
pub use Rattle.reader.specs.Inside.Steps.{EntryAt, LabelAt, Took, entry_step, head_of, head_step, label_step, nothing}
unfoldable pub use Rattle.reader.specs.Inside.Steps.{handed_over, label_after, label_from, numbers, parts_in, put_part, put_row, row_after, row_from, rows_in}
pub use Rattle.reader.specs.Lists.{label_cell, labels_long}
unfoldable pub use Rattle.reader.specs.Lists.{into_lists, part_in, read_into}
pub use Rattle.reader.specs.declared.labels.Parts.{Parts}
pub use Rattle.reader.specs.declared.row.Part.{Part}
pub use Rattle.sheet.proofs.Inside.Stores.{row_stored, rows_agree}
pub use Rattle.sheet.proofs.RoundTrip.{sheet_in_front, whole_sheet_comes_back}
pub use Rattle.sheet.specs.Legal.{Legal, LegalRow, ZeroPast, no_row, row_at}
unfoldable pub use Rattle.sheet.specs.Legal.{legal}
pub use Rattle.sheet.specs.Lists.{number_at, sheet_cell, sheet_long}
unfoldable pub use Rattle.sheet.specs.Lists.{filled, list_cell, row_cell, sheet_in}
pub use Rattle.sheet.specs.Values.{no_rows, no_sheet, padded}
pub use Rattle.sheet.specs.declared.row.Row.{Row}
pub use Rattle.sheet.specs.declared.row.Sheet.{Sheet}
