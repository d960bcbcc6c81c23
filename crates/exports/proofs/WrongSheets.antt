-- No answer by a wrong rule of the calls for a sheet that is written meets their promises. Assumes nothing.
use Rattle.basis.specs.Prelude.{ℕ, refl, List, get_or}
use Rattle.exports.proofs.Names.{all_of, first_of, upto, pair_cell, begins, NoneMeets, values_apart, groups, up_to_by, legal, legal_at, legal_row, filled, row_in, sheet_in, label_in, write_sheet, labels_by, labels_on, sheet_written}
use Rattle.numbers.specs.Numbers.{spelt}
use Rattle.reader.specs.Form.{plain, label_by, entry_by, entries_by, body_by, head_by, sheet_by, label_head}
use Rattle.reader.specs.Lists.{part_in}
use Rattle.writer.specs.Form.{row_bytes, entry_bytes, entries_bytes, head_bytes, sheet_bytes}
use Rattle.writer.specs.Answers.{first_rows, is_label, label_lies, label_at, check_sheet}
use Rattle.writer.specs.Wrong.{one_row, one_row_bytes, one_row_labels}
use Rattle.exports.specs.WrongSheets.{labels_given, labels_swapped, past_kept, Told, length_beside, mark_not_counted, three_nines, lent_nines}

-- ---- `giachimu_labels`: the label of one row starts at 7, and has one byte

-- start and length swapped
pub labels_swapped_is_shut_out : NoneMeets (labels_swapped one_row_bytes three_nines) (labels_on one_row_bytes three_nines)
unfolding labels_swapped labels_given labels_on labels_by filled upto pair_cell label_in label_head sheet_by head_by body_by entries_by entry_by label_by plain up_to_by groups begins
labels_swapped_is_shut_out = values_apart _ _ (λ (r : (ℕ × ℕ) × List ℕ). get_or r.1 0 0) refl

-- the places past the rows kept: the third is made 0
pub past_kept_is_shut_out : NoneMeets (past_kept one_row_bytes three_nines) (labels_on one_row_bytes three_nines)
unfolding past_kept labels_given labels_on labels_by filled upto pair_cell label_in label_head sheet_by head_by body_by entries_by entry_by label_by plain up_to_by groups begins
past_kept_is_shut_out = values_apart _ _ (λ (r : (ℕ × ℕ) × List ℕ). get_or r.1 2 0) refl

-- ---- `giachimu_write`: one row makes twelve bytes

-- the length told beside a refusal: a buffer one byte too short leaves what was lent
pub length_beside_is_shut_out : NoneMeets (length_beside one_row one_row_bytes one_row_labels (lent_nines 11)) (sheet_written one_row one_row_bytes one_row_labels (lent_nines 11))
unfolding length_beside sheet_written write_sheet check_sheet label_at label_lies is_label first_rows sheet_bytes head_bytes entries_bytes entry_bytes row_bytes spelt part_in sheet_in row_in legal legal_at legal_row upto first_of all_of
length_beside_is_shut_out = values_apart _ _ (λ (r : Told). r.1.0) refl

-- the mark not counted
pub mark_not_counted_is_shut_out : NoneMeets (mark_not_counted one_row one_row_bytes one_row_labels (lent_nines 12)) (sheet_written one_row one_row_bytes one_row_labels (lent_nines 12))
unfolding mark_not_counted sheet_written write_sheet check_sheet label_at label_lies is_label first_rows sheet_bytes head_bytes entries_bytes entry_bytes row_bytes spelt part_in sheet_in row_in legal legal_at legal_row upto first_of all_of
mark_not_counted_is_shut_out = values_apart _ _ (λ (r : Told). r.1.0) refl
