-- No answer by a wrong rule of a sheet that is written meets the promise of `write_sheet`. Assumes nothing.
use Rattle.basis.specs.Prelude.{ℕ, refl, [], get_or}
use Rattle.basis.specs.Upto.{upto}
use Rattle.basis.specs.Faults.{NoAnswer}
use Rattle.basis.proofs.Faults.{number_of, told_apart}
use Rattle.sheet.specs.Legal.{legal_at, legal_row}
use Rattle.sheet.specs.Lists.{row_in}
use Rattle.writer.proofs.Names.{all_of, first_of, Outcome, accepted, refused, Answer, spelt, legal, sheet_in, part_in, is_label, label_lies, label_at, check_sheet, first_rows, write_sheet, row_bytes, entry_bytes, entries_bytes, head_bytes, sheet_bytes}
use Rattle.writer.specs.Wrong.{written_answer, written_as, checked_by, each_as, cut_at_fifteen, exchanged, spelt_more, rows_spelt, group_more, last_of, last_at_fault, as_far_as_it_goes, fifteen_before_six, byte_beside, past_cleared, one_row, one_row_bytes, one_row_labels, two_rows, sixteen_bytes, sixteen_labels, one_byte, outside_labels, nines}

-- what is read off an answer: the number of its refusal, its place, and a byte of the buffer
answer_number : Answer → ℕ
answer_number a = number_of a.outcome

place_of : Outcome → ℕ
place_of accepted = 0
place_of (refused number place) = place

answer_place : Answer → ℕ
answer_place a = place_of a.outcome

byte_at : ℕ → Answer → ℕ
byte_at i a = get_or a.lent i 0

-- a label cut at 15 bytes: one of 16 would be said to have 15
pub cut_at_fifteen_is_shut_out : NoAnswer written_answer (written_as cut_at_fifteen (sheet_in one_row) sixteen_bytes sixteen_labels (nines 27)) (write_sheet (sheet_in one_row) sixteen_bytes sixteen_labels (nines 27))
unfolding byte_at written_as cut_at_fifteen each_as write_sheet check_sheet label_at label_lies is_label first_rows sheet_bytes head_bytes entries_bytes entry_bytes row_bytes spelt part_in sheet_in row_in legal legal_at legal_row upto first_of all_of
cut_at_fifteen_is_shut_out = told_apart written_answer _ _ (byte_at 6) refl

-- deadline and budget exchanged: the row's deadline would be 2
pub exchanged_is_shut_out : NoAnswer written_answer (written_as exchanged (sheet_in one_row) one_row_bytes one_row_labels (nines 12)) (write_sheet (sheet_in one_row) one_row_bytes one_row_labels (nines 12))
unfolding byte_at written_as exchanged each_as write_sheet check_sheet label_at label_lies is_label first_rows sheet_bytes head_bytes entries_bytes entry_bytes row_bytes spelt part_in sheet_in row_in legal legal_at legal_row upto first_of all_of
exchanged_is_shut_out = told_apart written_answer _ _ (byte_at 10) refl

-- one group too many: one processor would be 81 00
pub group_more_is_shut_out : NoAnswer written_answer (written_as group_more (sheet_in one_row) one_row_bytes one_row_labels (nines 19)) (write_sheet (sheet_in one_row) one_row_bytes one_row_labels (nines 19))
unfolding byte_at written_as group_more rows_spelt spelt_more write_sheet check_sheet label_at label_lies is_label first_rows sheet_bytes head_bytes entries_bytes entry_bytes row_bytes spelt part_in sheet_in row_in legal legal_at legal_row upto first_of all_of
group_more_is_shut_out = told_apart written_answer _ _ (byte_at 4) refl

-- the last row at fault: where no row has a label the first one is told
pub last_at_fault_is_shut_out : NoAnswer written_answer (checked_by last_at_fault (sheet_in two_rows) [] [] []) (write_sheet (sheet_in two_rows) [] [] [])
unfolding answer_place place_of checked_by last_at_fault last_of write_sheet check_sheet label_at label_lies is_label part_in sheet_in row_in legal legal_at legal_row upto first_of all_of
last_at_fault_is_shut_out = told_apart written_answer _ _ answer_place refl

-- a label outside its bytes taken as far as it goes: of two bytes only the first is there
pub as_far_as_it_goes_is_shut_out : NoAnswer written_answer (checked_by as_far_as_it_goes (sheet_in one_row) one_byte outside_labels (nines 12)) (write_sheet (sheet_in one_row) one_byte outside_labels (nines 12))
unfolding answer_number checked_by as_far_as_it_goes write_sheet check_sheet label_at label_lies is_label first_rows sheet_bytes head_bytes entries_bytes entry_bytes row_bytes spelt part_in sheet_in row_in legal legal_at legal_row upto first_of all_of
as_far_as_it_goes_is_shut_out = told_apart written_answer _ _ answer_number refl

-- 15 before 6: a row without a label is 6 whatever the buffer
pub fifteen_before_six_is_shut_out : NoAnswer written_answer (fifteen_before_six (sheet_in one_row) [] [] []) (write_sheet (sheet_in one_row) [] [] [])
unfolding answer_number fifteen_before_six checked_by write_sheet check_sheet label_at label_lies is_label first_rows sheet_bytes head_bytes entries_bytes entry_bytes row_bytes spelt part_in sheet_in row_in legal legal_at legal_row upto first_of all_of
fifteen_before_six_is_shut_out = told_apart written_answer _ _ answer_number refl

-- a byte beside a refusal: a buffer one byte too short stays as it was
pub byte_beside_is_shut_out : NoAnswer written_answer (byte_beside (sheet_in one_row) one_row_bytes one_row_labels (nines 11)) (write_sheet (sheet_in one_row) one_row_bytes one_row_labels (nines 11))
unfolding byte_at byte_beside write_sheet check_sheet label_at label_lies is_label first_rows sheet_bytes head_bytes entries_bytes entry_bytes row_bytes spelt part_in sheet_in row_in legal legal_at legal_row upto first_of all_of
byte_beside_is_shut_out = told_apart written_answer _ _ (byte_at 0) refl

-- the byte past the file cleared: the thirteenth stays 9
pub past_cleared_is_shut_out : NoAnswer written_answer (past_cleared (sheet_in one_row) one_row_bytes one_row_labels (nines 13)) (write_sheet (sheet_in one_row) one_row_bytes one_row_labels (nines 13))
unfolding byte_at past_cleared write_sheet check_sheet label_at label_lies is_label first_rows sheet_bytes head_bytes entries_bytes entry_bytes row_bytes spelt part_in sheet_in row_in legal legal_at legal_row upto first_of all_of
past_cleared_is_shut_out = told_apart written_answer _ _ (byte_at 12) refl
