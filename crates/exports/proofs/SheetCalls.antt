-- A sheet that is written and read, or read and written, by the library's calls; and a refused writing changes nothing that is lent. Assumes nothing.
use Rattle.basis.specs.Prelude.{ℕ, ◌≤◌, ◌≡◌, refl, ap, List, arith, length, take, sets, le-leb}
use Rattle.basis.specs.Lent.{Answer}
use Rattle.basis.specs.Readers.{Bytes}
use Rattle.exports.proofs.Names.{accepted, reading, sheet_in, sheet_long, lent_told, fields_in, read_in, labels_by, labels_on, sheet_written, write_sheet}
use Rattle.reader.specs.Lists.{labels_long}
use Rattle.writer.specs.Answers.{held_by, entry_of, check_sheet}
use Rattle.writer.specs.Form.{sheet_bytes}
use Rattle.writer.specs.Listed.{SheetRefusal, illegal_sheet, bad_label, no_room}
use Rattle.writer.proofs.BothWays.{file_is_read, file_is_accepted, handed_comes_back}
use Rattle.writer.proofs.Refusals.{sheet_refusal_is_listed}
use Rattle.writer.proofs.Inside.Held.{Handed, lists_hold}
use Rattle.writer.proofs.Inside.Rows.{rows_count}
use Rattle.exports.proofs.Back.{read_passes, read_comes_back, labels_come_back}
use Rattle.exports.proofs.Inside.LentAnswers.{written_left, told_zero_lem}

-- A refused `giachimu_write` leaves the number and the buffer.
pub refused_write_changes_nothing : (sheet s labels : List ℕ) (lent : ℕ × List ℕ) → ((sheet_written sheet s labels lent).0.0 ≡ 0 → ⊥) → (sheet_written sheet s labels lent).1 ≡ lent
unfolding sheet_written write_sheet
refused_write_changes_nothing sheet s labels (found, out) n =
    written_left (check_sheet (sheet_in sheet) s labels) (sheet_bytes (held_by (sheet_in sheet) s labels)) out found n

-- what `giachimu_read` and `giachimu_labels` have written hands over what was read
both_hand_over : (s list parts : List ℕ) → (read_in s list).0.0 ≡ 0 → (labels_on s parts).0.0 ≡ 0 → Handed s (read_in s list).1 (labels_on s parts).1
both_hand_over s list parts e f =
    let back = read_comes_back s list e in
    record {
      accepts = (read_passes s list e).0;
      processors = λ i. (back i).processors;
      count = λ i. (back i).count;
      rows = λ k c. rw back refl;
      parts = labels_come_back s parts f;
    }

-- What `giachimu_read` and `giachimu_labels` read, `giachimu_write` writes as the very bytes again, into any buffer that is long enough.
pub read_sheet_is_written : (s list parts out : List ℕ) (found : ℕ) → Bytes s → (read_in s list).0.0 ≡ 0 → (labels_on s parts).0.0 ≡ 0 → length s ≤ length out
    → sheet_written (read_in s list).1 s (labels_on s parts).1 (found, out) ≡ ((0, 0), (length s, sets out 0 s))
unfolding sheet_written
read_sheet_is_written s list parts out found bytes e f r =
    ap (λ (a : Answer). lent_told a found) (handed_comes_back s (read_in s list).1 (labels_on s parts).1 (both_hand_over s list parts e f) bytes out r)

refusal_some : (n k p : ℕ) → SheetRefusal n k p → 1 ≤ k
refusal_some n k p (illegal_sheet a b) = omega arith
refusal_some n k p (bad_label a b) = omega arith
refusal_some n k p (no_room a b) = omega arith

-- What `giachimu_write` writes, `giachimu_read` and `giachimu_labels` read without a refusal into lists that are long enough, and these hold the rows and the labels that were written.
module _ (sheet s labels out : List ℕ) (found : ℕ) (none : (sheet_written sheet s labels (found, out)).0.0 ≡ 0) where
  abbrev file : List ℕ
  file = take (sheet_written sheet s labels (found, out)).1.0 (sheet_written sheet s labels (found, out)).1.1

  yes : (write_sheet (sheet_in sheet) s labels out).outcome ≡ accepted
  unfolding sheet_written
  yes = told_zero_lem _ (λ k p e. refusal_some _ k p (sheet_refusal_is_listed (sheet_in sheet) s labels out k p e)) none

  abbrev wrote : List ℕ
  wrote = take (write_sheet (sheet_in sheet) s labels out).count (write_sheet (sheet_in sheet) s labels out).lent

  file_is : file ≡ wrote
  unfolding sheet_written
  file_is = rw yes refl

  pub written_sheet_is_read : (list parts : List ℕ) → sheet_long (sheet_in sheet).count ≤ length list → labels_long (sheet_in sheet).count ≤ length parts
      → ((read_in file list).0 ≡ (0, 0)) × ((labels_on file parts).0 ≡ (0, 0)) × (held_by (sheet_in (read_in file list).1) file (labels_on file parts).1 ≡ held_by (sheet_in sheet) s labels)
  unfolding read_in fields_in labels_on labels_by
  written_sheet_is_read list parts r q = rw file_is (here list parts r q)
    where
      many : (reading wrote).1.count ≡ (sheet_in sheet).count
      many = rw (file_is_read (sheet_in sheet) s labels out yes) (rows_count (sheet_in sheet).count (entry_of (sheet_in sheet) s labels))

      here : (list parts : List ℕ) → sheet_long (sheet_in sheet).count ≤ length list → labels_long (sheet_in sheet).count ≤ length parts
          → ((read_in wrote list).0 ≡ (0, 0)) × ((labels_on wrote parts).0 ≡ (0, 0)) × (held_by (sheet_in (read_in wrote list).1) wrote (labels_on wrote parts).1 ≡ held_by (sheet_in sheet) s labels)
      here list parts r q =
          let fine = file_is_accepted (sheet_in sheet) s labels out yes in
          let e : (read_in wrote list).0 ≡ (0, 0) = simp (fine, le-leb (sheet_long (reading wrote).1.count) (length list) (omega (arith, many))) in
          let f : (labels_on wrote parts).0 ≡ (0, 0) = simp (fine, le-leb (labels_long (reading wrote).1.count) (length parts) (omega (arith, many))) in
          (e, f, lists_hold wrote _ _ (both_hand_over wrote list parts (λ i. (e i).0) (λ i. (f i).0)) _ _ (file_is_read (sheet_in sheet) s labels out yes))
