-- The names from elsewhere that the proofs here share, passed on under one name.
pub use Rattle.basis.proofs.Inside.Sums.{sum_grows, sum_le, sum_most}
pub use Rattle.basis.proofs.Inside.Words.{both_left, both_right, lt_or_le, true_not_false}
pub use Rattle.basis.specs.Limits.{longest_label, most_processors, most_rows, most_separation}
unfoldable pub use Rattle.basis.specs.Readers.{begins}
pub use Rattle.basis.specs.Refusals.{Outcome, accepted, is_accepted, outcome, refused}
unfoldable pub use Rattle.basis.specs.Words.{all_of, sum}
pub use Rattle.bound.proofs.Inside.Judging.{passes_local}
pub use Rattle.bound.proofs.Meaning.{Reached, bound_in_range, passing_is_less, smallest_is_bound}
pub use Rattle.bound.specs.Bound.{Answer, Word, bound, bounds, bounds_of, is_bound, none, unreached, value_of}
unfoldable pub use Rattle.bound.specs.Bound.{bound_by, holds, judge, least, result_of, results_to}
pub use Rattle.bound.specs.Lists.{results_long, words}
unfoldable pub use Rattle.bound.specs.Lists.{bounds_on, judged_bytes, result_cell, word_at}
unfoldable pub use Rattle.bound.specs.Test.{W, X, amount_of, amounts, duration_of, passes, q, room, x}
pub use Rattle.dashboard.specs.Inside.Ready.{LabelsLie, Roomy}
unfoldable pub use Rattle.dashboard.specs.Labels.{numbered, own_label}
pub use Rattle.dashboard.specs.Longest.{input_buffer, text_buffer, text_size}
unfoldable pub use Rattle.dashboard.specs.Longest.{input_size, longest_line, longest_text}
pub use Rattle.dashboard.specs.Meaning.{EndsIn, LastLine, NoVerdict, Reported}
pub use Rattle.dashboard.specs.Texts.{fixed_count, prefix, text_of}
unfoldable pub use Rattle.dashboard.specs.Texts.{board, lines, reference_text, section, sections, verdict_text}
pub use Rattle.dashboard.specs.Words.{bound_word, ending, holds_line, newline, no_verdict_word, none_word, space, unreached_word}
unfoldable pub use Rattle.dashboard.specs.Words.{line, line_start, no_verdict, refused_by, result_words}
unfoldable pub use Rattle.numbers.specs.Numbers.{groups, spelt, up_to_by, width}
pub use Rattle.page.proofs.Digits.{decimal_grows, decimal_is_short, last_digit}
pub use Rattle.page.proofs.Inside.Pages.{four_said, said_is_written, three_said, two_said}
pub use Rattle.page.specs.Decimals.{most_digits}
unfoldable pub use Rattle.page.specs.Decimals.{decimal, digits}
pub use Rattle.page.specs.Pages.{Page}
unfoldable pub use Rattle.page.specs.Pages.{said, written}
pub use Rattle.reader.proofs.LegalSheets.{accepted_is_legal, accepted_read, refused_is_no_sheet}
pub use Rattle.reader.proofs.Reach.{accepted_is_short, first_bytes_decide, refusal_is_listed}
pub use Rattle.reader.proofs.RowLabels.{label_of_row}
pub use Rattle.reader.specs.Answers.{reading, rows_read}
unfoldable pub use Rattle.reader.specs.Answers.{label_in}
pub use Rattle.reader.specs.Form.{sheet}
unfoldable pub use Rattle.reader.specs.Form.{body_by, entries_by, entry_by, head_by, label_by, label_head, plain, sheet_by}
unfoldable pub use Rattle.reader.specs.Lists.{part_in}
pub use Rattle.reader.specs.Lists.{labels_long}
unfoldable pub use Rattle.reader.specs.Longest.{longest_row, longest_sheet}
pub use Rattle.sheet.proofs.Legality.{legal_is}
pub use Rattle.sheet.specs.Legal.{Legal, no_row, row_at}
unfoldable pub use Rattle.sheet.specs.Legal.{legal, legal_at, legal_row}
pub use Rattle.sheet.specs.Lists.{number_at, sheet_cell, sheet_long}
unfoldable pub use Rattle.sheet.specs.Lists.{filled, sheet_in}
pub use Rattle.sheet.specs.declared.row.Sheet.{Sheet}
pub use Rattle.tables.specs.Tables.{row, sheet_of}
unfoldable pub use Rattle.tables.specs.Tables.{fixed_sheet}
