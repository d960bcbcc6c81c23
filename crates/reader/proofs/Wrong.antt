-- No answer by a wrong rule of the reader or of the labels meets the promise of a function of this crate. Assumes nothing.
use Rattle.basis.specs.Prelude.{ℕ, ◌+◌, ◌≡◌, refl, sym, ap, ◌∙◌, List, arith, get_or}
use denote.Ref.{Bor}
use Rattle.reader.proofs.Names.{Outcome, accepted, refused, begins, upto, pair_cell, groups, up_to_by, row_cell, list_cell, Sheet, plain, label_by, entry_by, entries_by, body_by, head_by, sheet_by, label_head, outcome_and_sheet, reading, nowhere, label_in, labels_in, shown, part, into_lists, read_into, two_pumps, first_pump, second_pump, Part, Parts}
use Rattle.basis.specs.Faults.{NoAnswer, NoneMeets}
use Rattle.basis.proofs.Faults.{number_of, told_apart, values_apart}
use Rattle.reader.proofs.Cases.{two_pumps_lem}
use Rattle.reader.specs.Wrong.{rows_by, form_by, row_by, read_by, other_mark, another_kind, bytes_after, long_deadline, blank_read, seven_and_eight, any_bytes, any_label, label_byte, enough_from, cut_label, cut_at_start, all_accepted, nothing_read, into_answer, lists_as_they_were, numbers_for_labels, first_label, start_for_length, after_its_end, copied, first_for_all, no_labels, pumps_and_more, late_row, blank_row, odd_label, short_label, room_for_two, labels_for_two}

-- the number of a refusal with anything beside it, and its place
number_of_lem : {A : Type 0} → Outcome × A → ℕ
number_of_lem (o, h) = number_of o

place_of : Outcome × Sheet → ℕ
place_of (accepted, h) = 0
place_of (refused k p, h) = p

-- another kind of file: 47 53 43 01 would be cut off after its mark
pub another_kind_is_shut_out : NoAnswer outcome_and_sheet (read_by another_kind other_mark) (reading other_mark)
unfolding another_kind form_by rows_by entry_by label_by plain up_to_by groups begins entries_by body_by head_by sheet_by number_of_lem
another_kind_is_shut_out = told_apart outcome_and_sheet _ _ number_of_lem refl

-- bytes after the last row: two pumps and a byte would be a sheet
pub bytes_after_is_shut_out : NoAnswer outcome_and_sheet (read_by bytes_after pumps_and_more) (reading pumps_and_more)
unfolding bytes_after form_by rows_by entry_by label_by plain up_to_by groups begins entries_by body_by head_by sheet_by number_of_lem
bytes_after_is_shut_out = told_apart outcome_and_sheet _ _ number_of_lem refl

-- a deadline over the separation
pub long_deadline_is_shut_out : NoAnswer outcome_and_sheet (read_by long_deadline late_row) (reading late_row)
unfolding long_deadline form_by rows_by row_by entry_by label_by plain up_to_by groups begins entries_by body_by head_by sheet_by number_of_lem
long_deadline_is_shut_out = told_apart outcome_and_sheet _ _ number_of_lem refl

-- a blank budget read as 0
pub blank_read_is_shut_out : NoAnswer outcome_and_sheet (read_by blank_read blank_row) (reading blank_row)
unfolding blank_read form_by rows_by row_by entry_by label_by plain up_to_by groups begins entries_by body_by head_by sheet_by number_of_lem
blank_read_is_shut_out = told_apart outcome_and_sheet _ _ number_of_lem refl

-- a blank budget refused by 8
pub seven_and_eight_is_shut_out : NoAnswer outcome_and_sheet (read_by seven_and_eight blank_row) (reading blank_row)
unfolding seven_and_eight form_by rows_by row_by entry_by label_by plain up_to_by groups begins entries_by body_by head_by sheet_by number_of_lem
seven_and_eight_is_shut_out = told_apart outcome_and_sheet _ _ number_of_lem refl

-- a label byte of 7F
pub label_byte_is_shut_out : NoAnswer outcome_and_sheet (read_by label_byte odd_label) (reading odd_label)
unfolding label_byte form_by rows_by row_by any_label any_bytes entry_by label_by plain up_to_by groups begins entries_by body_by head_by sheet_by number_of_lem
label_byte_is_shut_out = told_apart outcome_and_sheet _ _ number_of_lem refl

-- a label that is cut off, refused at 7 and not at 8
pub cut_at_start_is_shut_out : NoAnswer outcome_and_sheet (read_by cut_at_start short_label) (reading short_label)
unfolding cut_at_start form_by rows_by row_by cut_label enough_from entry_by label_by plain up_to_by groups begins entries_by body_by head_by sheet_by place_of
cut_at_start_is_shut_out = told_apart outcome_and_sheet _ _ place_of refl

-- every sheet accepted: a blank budget is not
pub all_accepted_is_shut_out : NoAnswer outcome_and_sheet (all_accepted (reading blank_row)) (reading blank_row)
unfolding all_accepted entry_by label_by plain up_to_by groups begins entries_by body_by head_by sheet_by number_of_lem
all_accepted_is_shut_out = told_apart outcome_and_sheet _ _ number_of_lem refl

-- a sheet of zeros for what was read: two pumps are two rows
pub nothing_read_is_shut_out : NoAnswer outcome_and_sheet (nothing_read (reading two_pumps)) (reading two_pumps)
unfolding nothing_read entry_by label_by plain up_to_by groups begins entries_by body_by head_by sheet_by
nothing_read_is_shut_out = told_apart outcome_and_sheet _ _ (λ (x : Outcome × Sheet). x.1.count) refl

-- `read_into`: bytes after the last row, read into lists
pub bytes_after_into_is_shut_out : NoAnswer into_answer (into_lists (read_by bytes_after pumps_and_more) pumps_and_more room_for_two labels_for_two) (read_into pumps_and_more room_for_two labels_for_two)
unfolding bytes_after form_by rows_by into_lists read_into entry_by label_by plain up_to_by groups begins entries_by body_by head_by sheet_by number_of_lem
bytes_after_into_is_shut_out = told_apart into_answer _ _ number_of_lem refl

-- lists left as they were: two pumps are on four processors
pub lists_as_they_were_is_shut_out : NoAnswer into_answer (lists_as_they_were two_pumps room_for_two labels_for_two) (read_into two_pumps room_for_two labels_for_two)
unfolding lists_as_they_were into_lists read_into upto list_cell row_cell entry_by label_by plain up_to_by groups begins entries_by body_by head_by sheet_by
lists_as_they_were_is_shut_out = told_apart into_answer _ _ (λ (x : Outcome × (List ℕ × List ℕ)). get_or x.1.0 0 0) refl

-- the sheet's numbers for the labels: the first of two pumps starts at 7
pub numbers_for_labels_is_shut_out : NoAnswer into_answer (numbers_for_labels two_pumps room_for_two labels_for_two) (read_into two_pumps room_for_two labels_for_two)
unfolding numbers_for_labels into_lists read_into upto pair_cell list_cell row_cell label_in label_head entry_by label_by plain up_to_by groups begins entries_by body_by head_by sheet_by
numbers_for_labels_is_shut_out = told_apart into_answer _ _ (λ (x : Outcome × (List ℕ × List ℕ)). get_or x.1.1 0 0) refl

-- `label_part`: the first label for every row: the second of two pumps starts at 16
pub first_label_is_shut_out : NoneMeets (first_label two_pumps 1) (label_in two_pumps 1)
unfolding first_label label_in label_head entry_by label_by plain up_to_by groups begins entries_by body_by head_by sheet_by
first_label_is_shut_out = values_apart _ _ (λ (p : Part). p.start) refl

-- the start for the length: a pump is 4 bytes long
pub start_for_length_is_shut_out : NoneMeets (start_for_length two_pumps 0) (label_in two_pumps 0)
unfolding start_for_length label_in label_head entry_by label_by plain up_to_by groups begins entries_by body_by head_by sheet_by
start_for_length_is_shut_out = values_apart _ _ (λ (p : Part). p.long) refl

-- a row that there is not shows no label, and not that of a row that there is
pub label_past_rows_is_shut_out : NoneMeets (first_label two_pumps 2) (label_in two_pumps 2)
unfolding first_label label_in label_head entry_by label_by plain up_to_by groups begins entries_by body_by head_by sheet_by
label_past_rows_is_shut_out = values_apart _ _ (λ (p : Part). p.long) refl

-- `label`, of any lent bytes that are two pumps: the two labels are the same bytes, so the place tells them apart
module _ (s : Bor (List ℕ)) (e : s.now ≡ two_pumps) where
  first : label_in s.now 0 ≡ first_pump
  first = rw e two_pumps_lem.0

  second : label_in s.now 1 ≡ second_pump
  second = rw e two_pumps_lem.1

  pub first_label_shown_is_shut_out : NoAnswer shown (part s (first_label s.now 1)) (part s (label_in s.now 1))
  unfolding first_label
  first_label_shown_is_shut_out r f g =
      let z : (label_in s.now 0).start + s.ref_ptr.1 ≡ (label_in s.now 1).start + s.ref_ptr.1 = ap (λ (x : (ℕ × ℕ) × List ℕ). x.0.1) (sym f ∙ g) in
      absurd (omega (arith, ap (λ (p : Part). p.start) first, ap (λ (p : Part). p.start) second))

  pub after_its_end_is_shut_out : NoAnswer shown (part s (after_its_end s.now 0)) (part s (label_in s.now 0))
  unfolding after_its_end
  after_its_end_is_shut_out r f g =
      let z : (label_in s.now 0).start + (label_in s.now 0).long + s.ref_ptr.1 ≡ (label_in s.now 0).start + s.ref_ptr.1 = ap (λ (x : (ℕ × ℕ) × List ℕ). x.0.1) (sym f ∙ g) in
      absurd (omega (arith, ap (λ (p : Part). p.long) first))

  -- a copy: the same bytes in another block
  pub copied_is_shut_out : (i : ℕ) → NoAnswer shown (copied s (label_in s.now i)) (part s (label_in s.now i))
  unfolding copied
  copied_is_shut_out i r f g = let z : s.ref_ptr.0 + 1 ≡ s.ref_ptr.0 = ap (λ (x : (ℕ × ℕ) × List ℕ). x.0.0) (sym f ∙ g) in absurd (omega arith)

-- `label_parts`
pub first_for_all_is_shut_out : NoAnswer (λ (p : Parts). p.parts) (first_for_all two_pumps) (labels_in two_pumps)
unfolding first_for_all labels_in upto label_in label_head entry_by label_by plain up_to_by groups begins entries_by body_by head_by sheet_by
first_for_all_is_shut_out = told_apart (λ (p : Parts). p.parts) _ _ (λ (l : List Part). (get_or l 1 nowhere).start) refl

pub no_labels_is_shut_out : NoAnswer (λ (p : Parts). p.parts) (no_labels two_pumps) (labels_in two_pumps)
unfolding no_labels labels_in upto label_in label_head entry_by label_by plain up_to_by groups begins entries_by body_by head_by sheet_by
no_labels_is_shut_out = told_apart (λ (p : Parts). p.parts) _ _ (λ (l : List Part). (get_or l 1 nowhere).start) refl
