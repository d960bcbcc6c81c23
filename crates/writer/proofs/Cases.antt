-- The worked sheet is written as its bytes, from what is held and from its list and labels. Assumes nothing.
use Rattle.basis.specs.Prelude.{◌≡◌, refl, ◌++◌, []}
use Rattle.writer.proofs.Names.{accepted, first_of, all_of, answer, spelt, part_in, legal, sheet_in, check_sheet, first_rows, is_label, label_at, label_lies, write_sheet, entries_bytes, entry_bytes, head_bytes, row_bytes, sheet_bytes}
use Rattle.basis.specs.Upto.{upto}
use Rattle.sheet.specs.Legal.{legal_at, legal_row}
use Rattle.sheet.specs.Lists.{row_in}
use Rattle.sheet.specs.Wrong.{list_e}
use Rattle.reader.specs.Cases.{two_pumps}
use Rattle.writer.specs.Cases.{pumps, labels_e}

-- what is held
pub worked_sheet : sheet_bytes pumps ≡ two_pumps
unfolding sheet_bytes head_bytes entries_bytes entry_bytes row_bytes spelt
worked_sheet = refl

-- the very bytes, from the sheet's list and from its own bytes, over whatever stands in the buffer
pub worked_answer : write_sheet (sheet_in list_e) two_pumps labels_e (two_pumps ++ []) ≡ answer accepted 24 two_pumps
unfolding write_sheet check_sheet label_at label_lies is_label part_in first_rows sheet_bytes head_bytes entries_bytes entry_bytes row_bytes spelt sheet_in row_in legal legal_at legal_row first_of upto all_of
worked_answer = refl
