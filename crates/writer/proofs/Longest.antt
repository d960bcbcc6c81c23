-- How many bytes are written: what a sum over the rows says, and 870 at most; a buffer of that size is never too short. Assumes nothing.
use Rattle.basis.specs.Prelude.{ℕ, ◌≤◌, ◌≡◌, refl, sym, true, ◌∙◌, List, arith, length}
use Rattle.writer.proofs.Names.{accepted, written_whole, wrote, Outcome, refused, written_by, spelt, Held, longest_sheet, Sheet, legal, sheet_in, held_by, check_sheet, write_sheet, Good, sheet_length, sheet_bytes, entries_bytes, entry_bytes, head_bytes, row_bytes}
use Rattle.reader.proofs.Reach.{accepted_is_short}
use Rattle.writer.specs.Cases.{longest}
use Rattle.writer.proofs.WrittenIsRead.{written_is_read}
use Rattle.writer.proofs.Inside.Lengths.{long_sheet}
use Rattle.writer.proofs.BothWays.{numbers_replaced}
use Rattle.writer.proofs.Inside.Held.{checked_is_good, read_into_hands_over}
use Rattle.reader.specs.Lists.{read_into}
use Rattle.reader.proofs.Inside.ZeroLists.{lists}

-- the sum
pub length_is_the_sum : (h : Sheet) (s labels out : List ℕ) → (write_sheet h s labels out).outcome ≡ accepted → (write_sheet h s labels out).count ≡ sheet_length h labels
unfolding write_sheet
length_is_the_sum h s labels out e =
    let w = wrote (check_sheet h s labels) (sheet_bytes (held_by h s labels)) out e in
    (λ i. (w.told i).count) ∙ long_sheet h s labels w.checked

-- no sheet is longer than the longest
pub written_is_short : (h : Held) → Good h → length (sheet_bytes h) ≤ longest_sheet
written_is_short h g = accepted_is_short (sheet_bytes h) h (length (sheet_bytes h)) (written_is_read h g)

-- by the sum, too: `fits`
pub all_short : (h : Sheet) (s labels : List ℕ) → check_sheet h s labels ≡ accepted → sheet_length h labels ≤ longest_sheet
all_short h s labels e = omega (arith, long_sheet h s labels e, written_is_short (held_by h s labels) (checked_is_good h s labels e))

-- so a buffer of that size has room for any: all that is refused is refused by the checks
pub longest_has_room : (h : Sheet) (s labels out : List ℕ) → longest_sheet ≤ length out → (write_sheet h s labels out).outcome ≡ check_sheet h s labels
unfolding write_sheet
longest_has_room h s labels out r = go (check_sheet h s labels) refl
  where
    go : (o : Outcome) → check_sheet h s labels ≡ o → (written_by (check_sheet h s labels) (sheet_bytes (held_by h s labels)) out).outcome ≡ check_sheet h s labels
    go accepted q =
        let short = written_is_short (held_by h s labels) (checked_is_good h s labels q) in
        (λ i. (written_whole (check_sheet h s labels) (sheet_bytes (held_by h s labels)) out q (omega arith) i).outcome) ∙ sym q
    go (refused a b) q = rw q refl

-- a sheet that was read, with any other numbers in their ranges for as many rows or fewer, is written into such a buffer from its own bytes
pub correction_is_written : (s list labels l b : List ℕ) → lists accepted l b ≡ read_into s list labels → (h : Sheet) → legal h ≡ true → h.count ≤ (sheet_in l).count → (out : List ℕ) → longest_sheet ≤ length out
    → (write_sheet h s b out).outcome ≡ accepted
correction_is_written s list labels l b e h fine many out r = longest_has_room h s b out r ∙ numbers_replaced s l b (read_into_hands_over s list labels l b e) h fine many

-- and a sheet of 32 rows, each with a label of 16 bytes and numbers that take the most bytes, is as long as that
pub longest_is_written : length (sheet_bytes longest) ≡ 870
unfolding sheet_bytes head_bytes entries_bytes entry_bytes row_bytes spelt
longest_is_written = refl
