-- What `giachimu_read`, `giachimu_labels` and `giachimu_label` answer at each way out, where the reader has answered r and written into lists. Assumes nothing.
use Rattle.basis.specs.Prelude.{ℕ, ◌+◌, ◌*◌, ◌≤◌, ◌<◌, ◌≡◌, sym, ◌∙◌, List, arith, length, lt-ltb, le-ltb, le-leb, w64, Fits}
use Rattle.exports.proofs.Names.{most_rows, Outcome, accepted, refused, or_else, room_for, handed_outcome, or_nothing, number_at, filled, sheet_in, sheet_cell, sheet_long, cleared_cell, cell_past, zeros, zeros_long, reading, label_in, accepted_is_legal, lists, rows_few, fields_in, read_in, label_answer, labels_by, labels_on}
use Rattle.sheet.proofs.Inside.ClearedLists.{cleared_is_filled}
use Rattle.reader.specs.Lists.{label_cell, labels_long, part_in, into_lists, read_into}
use Rattle.reader.proofs.Inside.ZeroLists.{no_label_past}
use Rattle.reader.proofs.LentLists.{outcome_is_the_readers, list_kept, labels_kept, labels_written, labels_have_room, reader_accepts, list_has_room, list_written, count_read, parts_written}

-- `giachimu_read`, with a list of labels that has room for every row
module _ (s list : List ℕ) (o : Outcome) (l b : List ℕ) (e : lists o l b ≡ read_into s list (zeros (labels_long most_rows))) where
  room : Outcome
  room = room_for (sheet_long (reading s).1.count) (length list)

  -- the reader's refusals, then the room for the sheet
  read_outcome : o ≡ or_else (reading s).0 room
  unfolding read_into into_lists room
  read_outcome =
      let labels : Outcome = room_for (labels_long (reading s).1.count) (length (zeros (labels_long most_rows))) in
      let enough : labels ≡ accepted = simp (le-leb (labels_long (reading s).1.count) (length (zeros (labels_long most_rows))) (omega (arith, rows_few s, zeros_long (labels_long most_rows)))) in
      (λ i. (e i).0) ∙ handed_outcome _ _ (or_else (reading s).0 (or_else room labels)) ∙ rw (enough, or_nothing)

  pub fields_refused : (k p : ℕ) → o ≡ refused k p → (t : ℕ × ℕ) → t ≡ (k, p) → (t, l) ≡ read_in s list
  unfolding read_in fields_in room
  fields_refused k p q t f = rw (f, sym read_outcome, q, list_kept s list _ o l b e k p q)

  module _ (q : o ≡ accepted) (n : ℕ) (en : n ≡ (sheet_in l).count) where
    rows_are : n ≡ (reading s).1.count
    rows_are = en ∙ count_read s list _ o l b e q

    pub rows_fit : Fits w64 (n * 4)
    rows_fit = record { fits = omega (arith, rows_are, rows_few s) }

    pub places_fit : (more : ℕ) → more ≤ 64 → Fits w64 (n * 4 + more)
    places_fit more m = record { fits = omega (arith, rows_are, rows_few s) }

    pub fields_are_read : (after : List ℕ) → after ≡ filled (cleared_cell (n * 4 + 2) l) l → (t : ℕ × ℕ) → t ≡ (0, 0) → (t, after) ≡ read_in s list
    unfolding read_in fields_in room
    fields_are_read after g t f =
        let past = (accepted_is_legal s (reader_accepts s list _ o l b e q)).1 in
        let whole = cleared_is_filled (sheet_cell (reading s).1) (sheet_long (reading s).1.count) list l (list_written s list _ o l b e q)
        (list_has_room s list _ o l b e q) (cell_past (reading s).1 (reading s).1.count past) in
        rw (f, sym read_outcome, q, g, rows_are, whole)

-- `giachimu_labels`, with a list for the sheet that has room for every row
module _ (s labels : List ℕ) (o : Outcome) (l b : List ℕ) (e : lists o l b ≡ read_into s (zeros (sheet_long most_rows)) labels) where
  space : Outcome
  space = room_for (labels_long (reading s).1.count) (length labels)

  -- the reader's refusals, then the room for the labels
  labels_outcome : o ≡ or_else (reading s).0 space
  unfolding read_into into_lists space
  labels_outcome =
      let enough : room_for (sheet_long (reading s).1.count) (length (zeros (sheet_long most_rows))) ≡ accepted =
      simp (le-leb (sheet_long (reading s).1.count) (length (zeros (sheet_long most_rows))) (omega (arith, rows_few s, zeros_long (sheet_long most_rows)))) in
      (λ i. (e i).0) ∙ handed_outcome _ _ (or_else (reading s).0 (or_else (room_for (sheet_long (reading s).1.count) (length (zeros (sheet_long most_rows)))) space)) ∙ rw enough

  pub labels_refused : (k p : ℕ) → o ≡ refused k p → (t : ℕ × ℕ) → t ≡ (k, p) → (t, b) ≡ labels_on s labels
  unfolding labels_on labels_by space
  labels_refused k p q t f = rw (f, sym labels_outcome, q, labels_kept s _ labels o l b e k p q)

  module _ (q : o ≡ accepted) (n : ℕ) (en : n ≡ (sheet_in l).count) where
    labels_count : n ≡ (reading s).1.count
    labels_count = en ∙ count_read s _ labels o l b e q

    pub labels_fit : Fits w64 (n * 2)
    labels_fit = record { fits = omega (arith, labels_count, rows_few s) }

    pub labels_are_read : (after : List ℕ) → after ≡ filled (cleared_cell (n * 2) b) b → (t : ℕ × ℕ) → t ≡ (0, 0) → (t, after) ≡ labels_on s labels
    unfolding labels_on labels_by space
    labels_are_read after g t f =
        let whole = cleared_is_filled (label_cell s) (labels_long (reading s).1.count) labels b (labels_written s _ labels o l b e q)
        (labels_have_room s _ labels o l b e q) (no_label_past s (reader_accepts s _ labels o l b e q)) in
        rw (f, sym labels_outcome, q, g, labels_count, whole)

-- `giachimu_label`, with lists that have room for every row
module _ (s : List ℕ) (o : Outcome) (l b : List ℕ) (e : lists o l b ≡ read_into s (zeros (sheet_long most_rows)) (zeros (labels_long most_rows))) where
  outcome_is : o ≡ (reading s).0
  outcome_is =
      (λ i. (e i).0) ∙ outcome_is_the_readers s _ _ (omega (arith, rows_few s, zeros_long (sheet_long most_rows))) (omega (arith, rows_few s, zeros_long (labels_long most_rows)))

  pub label_refused : (row : ℕ) (found t : ℕ × ℕ) (k p : ℕ) → o ≡ refused k p → t ≡ (k, p) → (t, found) ≡ label_answer s row found
  unfolding label_answer
  label_refused row found t k p q f = rw (f, sym outcome_is, q)

  module _ (q : o ≡ accepted) (n : ℕ) (en : n ≡ (sheet_in l).count) (row : ℕ) where
    count_is : n ≡ (reading s).1.count
    count_is = en ∙ count_read s _ _ o l b e q

    pub label_past : (found t : ℕ × ℕ) → n ≤ row → t ≡ (14, 0) → (t, found) ≡ label_answer s row found
    unfolding label_answer
    label_past found t m f = rw (f, sym outcome_is, q, le-ltb row (reading s).1.count (omega (arith, count_is)))

    module _ (m : row < n) where
      few : row < most_rows
      few = omega (arith, count_is, rows_few s)

      pub start_fits : Fits w64 (row * 2)
      start_fits = record { fits = omega (arith, few) }

      pub start_scaled : Fits w64 (row * 2 * 8)
      start_scaled = record { fits = omega (arith, few) }

      pub start_inside : row * 2 < labels_long most_rows
      start_inside = omega (arith, few)

      -- one place more
      module _ (more : ℕ) (most : more ≤ 1) where
        pub long_fits : Fits w64 (row * 2 + more)
        long_fits = record { fits = omega (arith, few) }

        pub long_scaled : Fits w64 ((row * 2 + more) * 8)
        long_scaled = record { fits = omega (arith, few) }

        pub long_inside : row * 2 + more < labels_long most_rows
        long_inside = omega (arith, few)

      pub label_there : (found t : ℕ × ℕ) → t ≡ (0, 0) → (t, (number_at b (row * 2), number_at b (row * 2 + 1))) ≡ label_answer s row found
      unfolding label_answer part_in
      label_there found t f =
          let is : part_in b row ≡ label_in s row = parts_written s _ _ o l b e q row (omega (arith, count_is)) in
          rw (f, sym outcome_is, q, lt-ltb row (reading s).1.count (omega (arith, count_is)))
          (λ i. ((0, 0), ((is i).start, (is i).long)))
