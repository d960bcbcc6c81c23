-- Both ways, over the promises: what is written reads back as those rows and those labels, a sheet that was read is written as its very bytes, and a number or a label that is replaced leaves the others. Assumes nothing.
use Rattle.basis.specs.Prelude.{ℕ, ◌+◌, ◌≤◌, ◌<◌, ◌≡◌, refl, sym, ap, ◌∙◌, true, Bool, List, ◌++◌, arith, length, length-append, get_or-map, take, take-append-le, drop, drop-append-le, length-drop, sets, leb, le-leb, leb-true}
use Rattle.writer.proofs.Names.{written_whole, wrote, both_left, both_right, both_true, accepted, needed, or_else, refused, first_of, pick, Bytes, ok, answer, written_by, sheet, part_in, Part, Sheet, sheet_in, legal, row_at, first_rows, entry_of, held_by, part_of, check_sheet, is_label, label_at, label_lies, write_sheet, sheet_bytes}
use Rattle.basis.proofs.Inside.FirstRefusal.{all_accepted_lem}
use Rattle.sheet.specs.Lists.{sheet_long}
use Rattle.reader.specs.Answers.{reading, label_in}
use Rattle.reader.specs.Form.{entry_row, entry_label}
use Rattle.reader.specs.Lists.{labels_long, read_into}
use Rattle.reader.proofs.LegalSheets.{accepted_read, row_held}
use Rattle.reader.proofs.LentLists.{outcome_is_the_readers}
use Rattle.reader.proofs.RowLabels.{label_of_row}
use Rattle.reader.proofs.Inside.ZeroLists.{lists}
use Rattle.writer.proofs.WrittenIsRead.{written_is_read}
use Rattle.writer.proofs.ReadIsWritten.{read_is_written}
use Rattle.writer.proofs.Inside.Checks.{part_is_label}
use Rattle.writer.proofs.Inside.Held.{Handed, no_entry, checked_is_good, read_into_hands_over, lists_hold, list_is_legal}
use Rattle.writer.proofs.Inside.Rows.{rows_count, row_first}

-- ---- rows and labels, bytes, rows and labels

module _ (h : Sheet) (s labels out : List ℕ) (e : (write_sheet h s labels out).outcome ≡ accepted) where
  -- the bytes that were written
  abbrev file : List ℕ
  file = take (write_sheet h s labels out).count (write_sheet h s labels out).lent

  pub file_is : file ≡ sheet_bytes (held_by h s labels)
  unfolding write_sheet
  file_is = (wrote (check_sheet h s labels) (sheet_bytes (held_by h s labels)) out e).bytes

  -- the reader's form reads them to their end, as those rows and those labels
  pub file_is_read : sheet file 0 ≡ ok (held_by h s labels) (length file)
  unfolding write_sheet
  file_is_read =
      let checked : check_sheet h s labels ≡ accepted = (wrote (check_sheet h s labels) (sheet_bytes (held_by h s labels)) out e).checked in
      ap (λ (t : List ℕ). sheet t 0) file_is ∙ written_is_read (held_by h s labels) (checked_is_good h s labels checked)
      ∙ ap (λ (t : List ℕ). ok (held_by h s labels) (length t)) (sym file_is)

  -- so the reader accepts them always
  pub file_is_accepted : (reading file).0 ≡ accepted
  file_is_accepted = rw file_is_read refl

  -- and hands over the processors, the rows and the labels that were given
  pub processors_are_read : (reading file).1.processors ≡ h.processors
  processors_are_read = rw file_is_read refl

  pub count_is_read : (reading file).1.count ≡ h.count
  count_is_read = rw file_is_read (rows_count h.count (entry_of h s labels))

  module _ (k : ℕ) (c : k < h.count) where
    there : k < length (first_rows h.count (entry_of h s labels))
    there = omega (arith, rows_count h.count (entry_of h s labels))

    pub row_is_read : row_at (reading file).1 k ≡ row_at h k
    row_is_read =
        rw file_is_read (row_held (held_by h s labels) k there)
        ∙ get_or-map entry_row (first_rows h.count (entry_of h s labels)) k no_entry ∙ ap entry_row (row_first h.count (entry_of h s labels) no_entry k c)

    pub label_is_read : part_of file (label_in file k) ≡ part_of s (part_in labels k)
    label_is_read =
        (label_of_row file k (rw file_is_read there)).is_read (held_by h s labels) (length file) file_is_read
        ∙ get_or-map entry_label (first_rows h.count (entry_of h s labels)) k no_entry ∙ ap entry_label (row_first h.count (entry_of h s labels) no_entry k c)

  -- and the lists that it is read into, where they have room, hold what was written
  pub sheet_comes_back : (list parts : List ℕ) → sheet_long h.count ≤ length list → labels_long h.count ≤ length parts
      → ((read_into file list parts).0 ≡ accepted) × (held_by (sheet_in (read_into file list parts).1.0) file (read_into file list parts).1.1 ≡ held_by h s labels)
  sheet_comes_back list parts r q =
      let many = count_is_read in
      let fine : (read_into file list parts).0 ≡ accepted = outcome_is_the_readers file list parts (omega arith) (omega arith) ∙ file_is_accepted in (
        fine,
        lists_hold file _ _ (read_into_hands_over file list parts (read_into file list parts).1.0 (read_into file list parts).1.1 (λ i. (sym fine i, (read_into file list parts).1))) (held_by h s labels) (length file) file_is_read,
      )

-- ---- bytes, rows and labels, bytes

-- what holds of every row's label is held by the checks
labels_checked : (h : Sheet) (s labels : List ℕ) → legal h ≡ true → ((k : ℕ) → k < h.count → label_lies s (part_in labels k) ≡ true) → check_sheet h s labels ≡ accepted
unfolding check_sheet label_at
labels_checked h s labels fine all =
    ap (λ (t : Bool). or_else (needed t 10) (first_of h.count (label_at s labels))) fine
    ∙ all_accepted_lem h.count (label_at s labels) (λ k b. ap (λ (t : Bool). pick t accepted (refused 6 k)) (all k b))

module _ (s l b : List ℕ) (d : Handed s l b) where
  -- every label that was read lies in the bytes, and is a label
  read_label_lies : (k : ℕ) → k < (sheet_in l).count → label_lies s (part_in b k) ≡ true
  unfolding label_lies
  read_label_lies k c =
      let (h, n, q) = accepted_read s d.accepts in
      let count : (sheet_in l).count ≡ length h.entries = d.count ∙ rw q refl in
      let r = label_of_row s k (rw q (omega arith)) in
      rw (d.parts k (rw q (omega arith))) (both_true _ _ (le-leb _ _ r.inside) (part_is_label s (label_in s k) r.some r.short r.inside r.plainly))

  -- so with any numbers in their ranges, for as many rows or fewer, nothing is refused before 15
  pub numbers_replaced : (h : Sheet) → legal h ≡ true → h.count ≤ (sheet_in l).count → check_sheet h s b ≡ accepted
  numbers_replaced h fine many = labels_checked h s b fine (λ k c. read_label_lies k (omega arith))

  -- the sheet that was read, written into any buffer that is long enough, gives the very bytes
  pub handed_comes_back : Bytes s → (out : List ℕ) → length s ≤ length out → write_sheet (sheet_in l) s b out ≡ answer accepted (length s) (sets out 0 s)
  unfolding write_sheet
  handed_comes_back bytes out r =
      let (h, n, q) = accepted_read s d.accepts in
      let same : sheet_bytes (held_by (sheet_in l) s b) ≡ s = ap sheet_bytes (lists_hold s l b d h n q) ∙ sym (read_is_written s bytes h n q) in
      ap (λ (w : List ℕ). written_by (check_sheet (sheet_in l) s b) w out) same
      ∙ written_whole (check_sheet (sheet_in l) s b) s out (numbers_replaced (sheet_in l) (list_is_legal s l b d h n q) (omega arith)) r

-- where both lists were read at once
pub file_comes_back : (s list labels l b out : List ℕ) → Bytes s → lists accepted l b ≡ read_into s list labels → length s ≤ length out
    → write_sheet (sheet_in l) s b out ≡ answer accepted (length s) (sets out 0 s)
file_comes_back s list labels l b out bytes e r = handed_comes_back s l b (read_into_hands_over s list labels l b e) bytes out r

-- ---- one label replaced

-- bytes put after the others leave every part that lies in those: so a new label may stand there, and the others are as they were
pub label_replaced : (s t : List ℕ) (p : Part) → label_lies s p ≡ true → (label_lies (s ++ t) p ≡ true) × (part_of (s ++ t) p ≡ part_of s p)
unfolding label_lies
label_replaced s t p e =
    let inside : p.start + p.long ≤ length s = leb-true _ _ (both_left (leb (p.start + p.long) (length s)) (is_label (part_of s p)) e) in
    let same : part_of (s ++ t) p ≡ part_of s p =
    ap (take p.long) (drop-append-le p.start s t (omega arith)) ∙ take-append-le p.long (drop p.start s) t (omega (arith, length-drop p.start s)) in
    let further : p.start + p.long ≤ length (s ++ t) = omega (arith, length-append s t) in
    (both_true _ _ (le-leb (p.start + p.long) (length (s ++ t)) further) (ap is_label same ∙ both_right (leb (p.start + p.long) (length s)) (is_label (part_of s p)) e), same)
