-- Wrong rules of the reader and of the labels, each the rule of document 01 but for one thing, and the bytes that tell them.
use Rattle.std.specs.Prelude.{◌+◌, ◌∷◌, ◌++◌}
use Rattle.std.specs.Prelude.{Result}
use Rattle.basis.specs.Prelude.{ℕ, zero, suc, List, [], length, take, drop, replicate, leb}
use Rattle.std.specs.Borrow.{Bor}
use Rattle.basis.specs.Limits.{most_processors, most_rows, longest_label, most_separation}
use Rattle.basis.specs.Words.{pick}
use Rattle.basis.specs.Refusals.{Outcome, accepted, outcome}
use Rattle.basis.specs.declared.refusal.Refusal.{Refusal}
use Rattle.basis.specs.Readers.{ok, refuse, Reader, ◌>>=◌, ◌>>◌, give, byte, enough, end, marked}
use Rattle.basis.specs.Upto.{upto}
use Rattle.numbers.specs.Numbers.{number, up_to}
use Rattle.sheet.specs.Values.{no_sheet}
use Rattle.sheet.specs.Lists.{sheet_cell, sheet_long}
use Rattle.sheet.specs.declared.row.Sheet.{Sheet}
use Rattle.reader.specs.Form.{Entry, Held, mark_bytes, plain, label, entry}
use Rattle.reader.specs.Answers.{reading_of, reading, label_in, no_parts}
use Rattle.reader.specs.Lists.{labels_long}
use Rattle.reader.specs.Cases.{two_pumps}
use Rattle.reader.specs.declared.row.Part.{Part}

-- So many rows, each by another form.
unfoldable pub rows_by : Reader Entry → ℕ → Reader (List Entry)
rows_by row zero = give []
rows_by row (suc n) = do
  e ← row
  es ← rows_by row n
  give (e ∷ es)

-- A sheet with another mark, other rows and another end.
unfoldable pub form_by : List ℕ → (ℕ → Reader Entry) → Reader (Unit {0}) → Reader Held
form_by mark row last = do
  marked mark
  m ← up_to most_processors 4 4
  n ← up_to most_rows 5 5
  es ← rows_by (row m) n
  last
  give (record { processors = m; entries = es })

-- A row with another label, and another range of its deadline and of its budget.
unfoldable pub row_by : Reader (List ℕ) → (ℕ → Reader ℕ) → (ℕ → Reader ℕ) → ℕ → Reader Entry
row_by label deadline budget m = do
  l ← label
  t ← up_to m 7 8
  T ← up_to most_separation 7 8
  D ← deadline T
  C ← budget D
  give (record { label = l; row = record { threads = t; separation = T; deadline = D; budget = C } })

-- 1 to D, as 01 has it of a budget, and 1 to T of a deadline.
abbrev pub up_to_it : ℕ → Reader ℕ
up_to_it most = up_to most 7 8

-- What is handed over after reading by another form.
abbrev pub read_by : Reader Held → List ℕ → Outcome × Sheet
read_by form s = reading_of (form s 0)

-- The mark of a file of another kind, 47 53 43 01.
abbrev pub other_mark : List ℕ
other_mark = 0x47 ∷ 0x53 ∷ 0x43 ∷ 0x01 ∷ []

-- A file of another kind is read as a sheet.
unfoldable pub another_kind : Reader Held
another_kind = form_by other_mark entry end

-- Bytes after the last row are accepted.
unfoldable pub bytes_after : Reader Held
bytes_after = form_by mark_bytes entry (give tt)

-- A deadline over the separation is accepted.
unfoldable pub long_deadline : Reader Held
long_deadline = form_by mark_bytes (row_by label (λ T. up_to_it most_separation) up_to_it) end

-- A blank budget is read as 0, so that the row weighs nothing.
unfoldable pub blank_read : Reader Held
blank_read = form_by mark_bytes (row_by label up_to_it (λ D. number)) end

-- A budget of zero is given 8, and one over the deadline 7.
unfoldable pub seven_and_eight : Reader Held
seven_and_eight = form_by mark_bytes (row_by label up_to_it (λ D. up_to D 8 7)) end

-- k bytes of a label, whatever they are.
unfoldable pub any_bytes : ℕ → Reader (List ℕ)
any_bytes zero = give []
any_bytes (suc k) = do
  b ← byte
  bs ← any_bytes k
  give (b ∷ bs)

-- A label whose bytes may be any.
unfoldable pub any_label : Reader (List ℕ)
any_label = do
  k ← up_to longest_label 6 6
  enough k
  any_bytes k

-- A label byte out of range is accepted.
unfoldable pub label_byte : Reader Held
label_byte = form_by mark_bytes (row_by any_label up_to_it up_to_it) end

-- k bytes more, refused where they should begin.
unfoldable pub enough_from : ℕ → Reader (Unit {0})
enough_from k s at = pick (leb (at + k) (length s)) (ok tt at) (refuse 2 at)

-- A label that is refused at its first byte where the sheet cuts it off.
unfoldable pub cut_label : Reader (List ℕ)
cut_label = do
  k ← up_to longest_label 6 6
  enough_from k
  plain k

-- A label that the sheet cuts off is refused at its first byte.
unfoldable pub cut_at_start : Reader Held
cut_at_start = form_by mark_bytes (row_by cut_label up_to_it up_to_it) end

-- A refused sheet is said to be accepted.
unfoldable pub all_accepted : Outcome × Sheet → Outcome × Sheet
all_accepted (o, h) = (accepted, h)

-- A sheet of zeros is handed over.
unfoldable pub nothing_read : Outcome × Sheet → Outcome × Sheet
nothing_read (o, h) = (o, no_sheet)

-- What `read_into` answers, with the lists after it.
abbrev pub into_answer : Result (Unit {0}) Refusal × (List ℕ × List ℕ) → Outcome × (List ℕ × List ℕ)
into_answer (r, lists) = (outcome r, lists)

-- Both lists are as they were, whatever was read.
unfoldable pub lists_as_they_were : List ℕ → List ℕ → List ℕ → Outcome × (List ℕ × List ℕ)
lists_as_they_were s list labels = ((reading s).0, (list, labels))

-- The sheet's numbers are handed over where the labels lie.
unfoldable pub numbers_for_labels : List ℕ → List ℕ → List ℕ → Outcome × (List ℕ × List ℕ)
numbers_for_labels s list labels =
    ((reading s).0, (upto (sheet_long (reading s).1.count) (sheet_cell (reading s).1) list, upto (labels_long (reading s).1.count) (sheet_cell (reading s).1) labels))

-- Every row shows the first row's label.
unfoldable pub first_label : List ℕ → ℕ → Part
first_label s i = label_in s 0

-- A label is as long as the place that it starts at.
unfoldable pub start_for_length : List ℕ → ℕ → Part
start_for_length s i = record { start = (label_in s i).start; long = (label_in s i).start }

-- The empty part after a label.
unfoldable pub after_its_end : List ℕ → ℕ → Part
after_its_end s i = record { start = (label_in s i).start + (label_in s i).long; long = 0 }

-- A copy of a label: the same bytes in another block of memory.
unfoldable pub copied : Bor (List ℕ) → Part → (ℕ × ℕ) × List ℕ
copied s p = ((s.ref_ptr.0 + 1, p.start + s.ref_ptr.1), take p.long (drop p.start s.now))

-- The first row's label for every row.
unfoldable pub first_for_all : List ℕ → List Part
first_for_all s = upto most_rows (λ i. label_in s 0) no_parts

-- No row has a label.
unfoldable pub no_labels : List ℕ → List Part
no_labels s = no_parts

-- Sheet E with two pumps, and a byte after it.
abbrev pub pumps_and_more : List ℕ
pumps_and_more = two_pumps ++ (0x00 ∷ [])

-- One processor and a row, its label p, its numbers as they are given.
abbrev pub one_row : ℕ → ℕ → ℕ → List ℕ
one_row b D C = 0x47 ∷ 0x53 ∷ 0x48 ∷ 0x01 ∷ 1 ∷ 1 ∷ 1 ∷ b ∷ 1 ∷ 1 ∷ D ∷ C ∷ []

-- A row whose deadline, 2, is over its separation, 1.
abbrev pub late_row : List ℕ
late_row = one_row 0x70 2 1

-- A row whose budget is blank.
abbrev pub blank_row : List ℕ
blank_row = one_row 0x70 1 0

-- A row whose label is the byte 7F.
abbrev pub odd_label : List ℕ
odd_label = one_row 0x7F 1 1

-- A sheet that ends inside its first label.
abbrev pub short_label : List ℕ
short_label = 0x47 ∷ 0x53 ∷ 0x48 ∷ 0x01 ∷ 1 ∷ 1 ∷ 3 ∷ 0x20 ∷ []

-- A list with room for two rows, and one with room for two labels.
abbrev pub room_for_two : List ℕ
room_for_two = replicate 10 9

abbrev pub labels_for_two : List ℕ
labels_for_two = replicate 4 9
