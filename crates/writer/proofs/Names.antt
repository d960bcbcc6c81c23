-- The names from elsewhere that the proofs here share, passed on under one name.
pub use Rattle.basis.proofs.Inside.FirstRefusal.{both_accepted, first_at, first_found, first_more}
pub use Rattle.basis.proofs.Inside.Steps.{after_ok, enough_ok, marked_ok, ok_same}
pub use Rattle.basis.proofs.Inside.Stores.{sets_after}
pub use Rattle.basis.proofs.Inside.Sums.{sum_grows, sum_one_more}
pub use Rattle.basis.proofs.Inside.Words.{all_at, all_fails, all_one_more, all_true, at_least, at_most, both_left, both_right, both_true, lt_or_le, within_true}
pub use Rattle.basis.proofs.Lent.{put_refused, written_same, written_whole, wrote}
pub use Rattle.basis.proofs.Refusals.{needed_holds, passed_on}
pub use Rattle.basis.specs.Lent.{Answer, answer, nothing_by, written_by, written_told}
pub use Rattle.basis.specs.Limits.{longest_label, most_processors, most_rows, most_separation}
pub use Rattle.basis.specs.Readers.{Bytes, enough, marked, ok}
unfoldable pub use Rattle.basis.specs.Readers.{begins}
pub use Rattle.basis.specs.Refusals.{Outcome, accepted, needed, or_else, outcome, refused}
unfoldable pub use Rattle.basis.specs.Refusals.{first_of}
pub use Rattle.basis.specs.Words.{Each, both, pick, within}
unfoldable pub use Rattle.basis.specs.Words.{all_of, sum}
pub use Rattle.basis.specs.declared.refusal.Refusal.{Refusal}
pub use Rattle.numbers.proofs.Back.{Reads, at_place, reads_end, reads_give, reads_then, reads_up_to}
pub use Rattle.numbers.proofs.Inside.Bounds.{bounded}
pub use Rattle.numbers.proofs.Inside.Covers.{Covers, covers_all, covers_as, covers_mark, covers_none, covers_part, covers_then, covers_up_to}
pub use Rattle.numbers.specs.Numbers.{spell, up_to}
unfoldable pub use Rattle.numbers.specs.Numbers.{spelt, width}
pub use Rattle.reader.specs.Form.{Entry, Head, Held, entries, entry, head, is_plain, label, mark_bytes, sheet}
unfoldable pub use Rattle.reader.specs.Form.{body_by, entries_by, entry_by, head_by, label_by, plain, sheet_by}
unfoldable pub use Rattle.reader.specs.Lists.{part_in}
unfoldable pub use Rattle.reader.specs.Longest.{longest_row, longest_sheet}
pub use Rattle.reader.specs.declared.row.Part.{Part}
pub use Rattle.sheet.proofs.Legality.{legal_is}
pub use Rattle.sheet.specs.Legal.{row_at}
unfoldable pub use Rattle.sheet.specs.Legal.{legal}
pub use Rattle.sheet.specs.Lists.{number_at}
unfoldable pub use Rattle.sheet.specs.Lists.{sheet_in}
pub use Rattle.sheet.specs.declared.row.Row.{Row}
pub use Rattle.sheet.specs.declared.row.Sheet.{Sheet}
pub use Rattle.writer.specs.Answers.{entry_of, held_by, part_of, plain_at}
unfoldable pub use Rattle.writer.specs.Answers.{check_sheet, first_rows, is_label, label_at, label_lies, write_sheet}
pub use Rattle.writer.specs.Form.{label_bytes}
unfoldable pub use Rattle.writer.specs.Form.{entries_bytes, entry_bytes, head_bytes, row_bytes, sheet_bytes}
pub use Rattle.writer.specs.Good.{Good, GoodEntry}
pub use Rattle.writer.specs.Inside.Bounds.{most_entry}
pub use Rattle.writer.specs.Length.{long_at}
unfoldable pub use Rattle.writer.specs.Length.{entry_long, head_long, row_long, sheet_length}
