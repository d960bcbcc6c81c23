-- What the writer accepts can be written; and lists that a sheet was read into hold what was read. Assumes nothing.
use Rattle.basis.specs.Prelude.{ℕ, ◌<◌, ◌≡◌, refl, ap, ◌∙◌, true, List, [], arith, length, get_or, get_or-map}
use Rattle.writer.proofs.Names.{accepted, ok, Entry, Held, sheet, part_in, row_at, Sheet, sheet_in, entry_of, held_by, part_of, first_rows, legal_is, legal, check_sheet, GoodEntry, Good}
use Rattle.sheet.specs.Legal.{no_row}
use Rattle.sheet.proofs.RoundTrip.{processors_come_back, row_comes_back}
use Rattle.reader.specs.Form.{entry_row, entry_label}
use Rattle.reader.specs.Answers.{reading, label_in}
use Rattle.reader.specs.Lists.{read_into}
use Rattle.reader.proofs.LentLists.{reader_accepts, list_has_room, list_written, count_read, parts_written}
use Rattle.reader.proofs.LegalSheets.{row_held, read_is_legal}
use Rattle.reader.proofs.RowLabels.{label_of_row}
use Rattle.reader.proofs.Inside.ZeroLists.{lists, rows_few}
use Rattle.sheet.proofs.Legality.{legal_says}
use Rattle.writer.proofs.Inside.Checks.{label_holds, checked_at, checked_legal}
use Rattle.writer.proofs.Inside.Rows.{rows_count, rows_of_list, rows_each}

-- an entry that is not there
abbrev pub no_entry : Entry
no_entry = record { label = []; row = no_row }

-- ---- what the writer accepts can be written

pub checked_is_good : (h : Sheet) (s labels : List ℕ) → check_sheet h s labels ≡ accepted → Good (held_by h s labels)
checked_is_good h s labels e =
    let l = legal_is h (checked_legal h s labels e) in
    let n = rows_count h.count (entry_of h s labels) in
    record {
      some_processors = l.some_processors;
      at_most_processors = l.at_most_processors;
      some_rows = omega (arith, n, l.some_rows);
      at_most_rows = omega (arith, n, l.at_most_rows);
      rows = rows_each (GoodEntry h.processors) h.count (entry_of h s labels) (λ k b. record { labelled = label_holds s labels k (checked_at h s labels e k b); in_ranges = l.rows k b });
    }

-- ---- a sheet that was read into lists

-- the lists hand over what was read
pub record Handed (s l b : List ℕ) : Type 0 where
  pub accepts : (reading s).0 ≡ accepted
  pub processors : (sheet_in l).processors ≡ (reading s).1.processors
  pub count : (sheet_in l).count ≡ (reading s).1.count
  pub rows : (k : ℕ) → k < (reading s).1.count → row_at (sheet_in l) k ≡ row_at (reading s).1 k
  pub parts : (k : ℕ) → k < (reading s).1.count → part_in b k ≡ label_in s k

pub read_into_hands_over : (s list labels l b : List ℕ) → lists accepted l b ≡ read_into s list labels → Handed s l b
read_into_hands_over s list labels l b e =
    let written = list_written s list labels accepted l b e refl in
    let room = list_has_room s list labels accepted l b e refl in
    record {
      accepts = reader_accepts s list labels accepted l b e refl;
      processors = processors_come_back (reading s).1 (reading s).1.count list l written room;
      count = count_read s list labels accepted l b e refl;
      rows = λ k c. row_comes_back (reading s).1 (reading s).1.count list l written room k c (omega (arith, rows_few s));
      parts = parts_written s list labels accepted l b e refl;
    }

module _ (s l b : List ℕ) (d : Handed s l b) (h : Held) (n : ℕ) (q : sheet s 0 ≡ ok h n) where
  count_is : (sheet_in l).count ≡ length h.entries
  count_is = d.count ∙ rw q refl

  entry_is : (k : ℕ) → k < (sheet_in l).count → entry_of (sheet_in l) s b k ≡ get_or h.entries k no_entry
  entry_is k c =
      let inside : k < length h.entries = omega (arith, count_is) in
      let there : k < (reading s).1.count = rw q inside in
      let label : part_of s (part_in b k) ≡ (get_or h.entries k no_entry).label =
      ap (part_of s) (d.parts k there) ∙ (label_of_row s k (rw q inside)).is_read h n q ∙ get_or-map entry_label h.entries k no_entry in
      let row : row_at (sheet_in l) k ≡ (get_or h.entries k no_entry).row =
      d.rows k there ∙ rw q (row_held h k inside) ∙ get_or-map entry_row h.entries k no_entry in
      λ i. record { label = label i; row = row i }

  -- so they hold what was read
  pub lists_hold : held_by (sheet_in l) s b ≡ h
  lists_hold =
      let m : (sheet_in l).processors ≡ h.processors = d.processors ∙ rw q refl in
      let rows : first_rows (sheet_in l).count (entry_of (sheet_in l) s b) ≡ h.entries = rows_of_list h.entries (sheet_in l).count (entry_of (sheet_in l) s b) no_entry count_is entry_is in
      λ i. record { processors = m i; entries = rows i }

  -- and the sheet's list is in the ranges
  pub list_is_legal : legal (sheet_in l) ≡ true
  list_is_legal =
      let fine = read_is_legal s h n q in
      let m : (sheet_in l).processors ≡ h.processors = d.processors ∙ rw q refl in
      legal_says (sheet_in l) (record {
        some_processors = omega (arith, fine.some_processors);
        at_most_processors = omega (arith, fine.at_most_processors);
        some_rows = omega (arith, fine.some_rows, count_is);
        at_most_rows = omega (arith, fine.at_most_rows, count_is);
        rows = λ k c. let inside : k < length h.entries = omega (arith, count_is) in rw (d.rows k (rw q inside), m) (rw q (fine.rows k inside));
      })
