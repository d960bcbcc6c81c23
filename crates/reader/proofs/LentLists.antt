-- What is known after a reading into lent lists. Assumes nothing.
use Rattle.basis.specs.Prelude.{ℕ, ◌+◌, ◌*◌, ◌≤◌, ◌<◌, ◌≡◌, sym, ap, ap₂, ◌∙◌, true, List, arith, length, take, le-leb}
use Rattle.reader.proofs.Names.{upto, first_read, second_read, Outcome, accepted, refused, or_else, room_for, handed, room_holds, handed_found, handed_done, handed_outcome, or_nothing, upto_below, length_upto, legal, number_at, list_cell, sheet_in, sheet_cell, sheet_long, sheet_in_front, reading, label_in, labels_long, label_cell, into_lists, read_into, part_in}
use Rattle.basis.proofs.Inside.FirstRefusal.{both_accepted}
use Rattle.reader.proofs.LegalSheets.{accepted_is_legal}
use Rattle.reader.proofs.Inside.ZeroLists.{Lists, lists, rows_long}

-- a part that was written
part_there : (s b labels : List ℕ) (n k : ℕ) → b ≡ upto (labels_long n) (label_cell s) labels → labels_long n ≤ length labels → k < n → part_in b k ≡ label_in s k
unfolding part_in
part_there s b labels n k e r h =
    ap₂ (λ (x y : ℕ). record { start = x; long = y })
    (ap (λ (z : List ℕ). number_at z (k * 2)) e ∙ first_read (λ j. (label_in s j).start) (λ j. (label_in s j).long) k n labels h r)
    (ap (λ (z : List ℕ). number_at z (k * 2 + 1)) e ∙ second_read (λ j. (label_in s j).start) (λ j. (label_in s j).long) k n labels h r)

-- where there is room the outcome is the reader's
pub outcome_is_the_readers : (s list labels : List ℕ) → sheet_long (reading s).1.count ≤ length list → labels_long (reading s).1.count ≤ length labels → (read_into s list labels).0 ≡ (reading s).0
unfolding read_into into_lists
outcome_is_the_readers s list labels r q =
    simp (le-leb (sheet_long (reading s).1.count) (length list) r, le-leb (labels_long (reading s).1.count) (length labels) q)
    (handed_outcome _ _ (or_else (reading s).0 accepted) ∙ or_nothing (reading s).0)

module _ (s list labels : List ℕ) (o : Outcome) (l b : List ℕ) (e : lists o l b ≡ read_into s list labels) where
  -- what the outcome is made of, and the lists where nothing is refused
  abbrev outcome_of : Outcome
  outcome_of = or_else (reading s).0 (or_else (room_for (sheet_long (reading s).1.count) (length list)) (room_for (labels_long (reading s).1.count) (length labels)))

  abbrev written : List ℕ × List ℕ
  written = (upto (sheet_long (reading s).1.count) (sheet_cell (reading s).1) list, upto (labels_long (reading s).1.count) (label_cell s) labels)

  as_handed : lists o l b ≡ handed outcome_of written (list, labels)
  unfolding read_into into_lists
  as_handed = e

  -- refused: both lists are as they were
  module _ (k p : ℕ) (q : o ≡ refused k p) where
    kept : ◌≡◌ {A = List ℕ × List ℕ} (l, b) (list, labels)
    kept = ap (λ (x : Lists). x.1) as_handed ∙ handed_found written (list, labels) outcome_of k p (sym (ap (λ (x : Lists). x.0) as_handed) ∙ q)

    pub list_kept : l ≡ list
    list_kept = ap (λ (x : List ℕ × List ℕ). x.0) kept

    pub labels_kept : b ≡ labels
    labels_kept = ap (λ (x : List ℕ × List ℕ). x.1) kept

  -- accepted: the reader accepts, there is room, and both lists are written
  module _ (q : o ≡ accepted) where
    done : (outcome_of ≡ accepted) × ((handed outcome_of written (list, labels)).1 ≡ written)
    done = handed_done written (list, labels) outcome_of (sym (ap (λ (x : Lists). x.0) as_handed) ∙ q)

    parts : ((reading s).0 ≡ accepted) × (or_else (room_for (sheet_long (reading s).1.count) (length list)) (room_for (labels_long (reading s).1.count) (length labels)) ≡ accepted)
    parts = both_accepted (reading s).0 _ done.0

    pub reader_accepts : (reading s).0 ≡ accepted
    reader_accepts = parts.0

    pub list_has_room : sheet_long (reading s).1.count ≤ length list
    list_has_room = room_holds (sheet_long (reading s).1.count) (length list) (both_accepted (room_for (sheet_long (reading s).1.count) (length list)) _ parts.1).0

    pub labels_have_room : labels_long (reading s).1.count ≤ length labels
    labels_have_room = room_holds (labels_long (reading s).1.count) (length labels) (both_accepted (room_for (sheet_long (reading s).1.count) (length list)) _ parts.1).1

    pub list_written : l ≡ upto (sheet_long (reading s).1.count) (sheet_cell (reading s).1) list
    list_written = ap (λ (x : Lists). x.1.0) as_handed ∙ ap (λ (x : List ℕ × List ℕ). x.0) done.1

    pub labels_written : b ≡ upto (labels_long (reading s).1.count) (label_cell s) labels
    labels_written = ap (λ (x : Lists). x.1.1) as_handed ∙ ap (λ (x : List ℕ × List ℕ). x.1) done.1

    -- the list's count is the sheet's
    pub count_read : (sheet_in l).count ≡ (reading s).1.count
    unfolding sheet_in list_cell
    count_read = ap (λ (z : List ℕ). number_at z 1) list_written ∙ upto_below (sheet_long (reading s).1.count) (sheet_cell (reading s).1) list 0 1 (omega arith) list_has_room

    -- and its front hands the sheet over
    pub front_hands_over : sheet_in (take (sheet_long (reading s).1.count) l) ≡ (reading s).1
    front_hands_over = sheet_in_front (reading s).1 (reading s).1.count list (rows_long s) (accepted_is_legal s reader_accepts).1 list_has_room l list_written

    pub sheet_is_legal : legal (reading s).1 ≡ true
    sheet_is_legal = (accepted_is_legal s reader_accepts).0

    pub list_as_long : length l ≡ length list
    list_as_long = ap length list_written ∙ length_upto (sheet_long (reading s).1.count) (sheet_cell (reading s).1) list

    -- the parts that are labels
    pub parts_written : (k : ℕ) → k < (reading s).1.count → part_in b k ≡ label_in s k
    parts_written k h = part_there s b labels (reading s).1.count k labels_written labels_have_room h

    pub labels_as_long : length b ≡ length labels
    labels_as_long = ap length labels_written ∙ length_upto (labels_long (reading s).1.count) (label_cell s) labels
