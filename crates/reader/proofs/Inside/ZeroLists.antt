-- What is read into lists of zeros that have room for every row. Assumes nothing.
use Rattle.basis.specs.Prelude.{ℕ, ◌+◌, ◌*◌, ◌≤◌, ◌<◌, ◌≡◌, refl, sym, ap, ap₂, ◌∙◌, List, arith, length, set, length-append, length-map, length-replicate, le-leb}
use Rattle.reader.proofs.Names.{most_rows, upto, Step, ok, refuse, Outcome, accepted, refused, first_cell, second_cell, pair_zero, upto_set, no_row, no_sheet, number_at, filled, sheet_in, sheet_cell, sheet_long, Sheet, whole_sheet_comes_back, Held, sheet, sheet_held, reading_of, reading, nowhere, rows_read, label_in, no_parts, labels_long, label_cell, into_lists, read_into, part_in, Part}
use Rattle.sheet.proofs.Inside.Cells.{cell_past, no_sheet_cell}
use Rattle.sheet.proofs.Inside.FilledLists.{zeros, zeros_long, filled_read, zeros_filled}
use Rattle.reader.proofs.LegalSheets.{zero_past, read_is_legal}
use Rattle.reader.proofs.RowLabels.{no_label}

-- past the rows that were read there is no label
label_cell_past : (s : List ℕ) (n : ℕ) → rows_read (sheet s 0) ≤ n → (i : ℕ) → labels_long n ≤ i → label_cell s i ≡ 0
label_cell_past s n h i l =
    pair_zero (λ k. (label_in s k).start) (λ k. (label_in s k).long) n
    (λ k b. ap (λ (p : Part). p.start) (no_label s k (omega arith))) (λ k b. ap (λ (p : Part). p.long) (no_label s k (omega arith))) i l

pub no_label_past : (s : List ℕ) → (reading s).0 ≡ accepted → (i : ℕ) → labels_long (reading s).1.count ≤ i → label_cell s i ≡ 0
no_label_past s e = label_cell_past s (reading s).1.count (go (sheet s 0) refl e)
  where
    go : (x : Step Held) → sheet s 0 ≡ x → (reading_of x).0 ≡ accepted → rows_read (sheet s 0) ≤ (reading_of x).1.count
    go (ok h n) q f = rw q (omega arith)
    go (refuse k p) q f = rw q (omega arith)

-- an outcome with two lists
abbrev pub Lists : Type 0
Lists = Outcome × (List ℕ × List ℕ)

abbrev pub lists : Outcome → List ℕ → List ℕ → Lists
lists o l b = (o, (l, b))

-- whatever the reader says, the lists are those of what it hands over
module _ (a b : ℕ) (ra : sheet_long most_rows ≤ a) (rb : labels_long most_rows ≤ b) (s : List ℕ) where
  own_lists : read_into s (zeros a) (zeros b) ≡ lists (reading s).0 (filled (sheet_cell (reading s).1) (zeros a)) (filled (label_cell s) (zeros b))
  unfolding read_into into_lists upto
  own_lists = go (sheet s 0) refl
    where
      go : (x : Step Held) → sheet s 0 ≡ x → into_lists (reading_of x) s (zeros a) (zeros b) ≡ lists (reading_of x).0 (filled (sheet_cell (reading_of x).1) (zeros a)) (filled (label_cell s) (zeros b))
      go (refuse k p) e =
          ap₂ (lists (refused k p)) (zeros_filled (sheet_cell no_sheet) a 0 (λ i h. no_sheet_cell i) (omega arith))
          (zeros_filled (label_cell s) b 0 (λ i h. label_cell_past s 0 (rw e (omega arith)) i (omega arith)) (omega arith))
      go (ok h n) e =
          let few = (read_is_legal s h n e).at_most_rows in
          simp (le-leb (sheet_long (length h.entries)) (length (zeros a)) (omega (arith, zeros_long a)), le-leb (labels_long (length h.entries)) (length (zeros b)) (omega (arith, zeros_long b)))
          (ap₂ (lists accepted)
          (zeros_filled (sheet_cell (sheet_held h)) a (sheet_long (length h.entries)) (cell_past (sheet_held h) (length h.entries) (zero_past h)) (omega arith))
          (zeros_filled (label_cell s) b (labels_long (length h.entries)) (label_cell_past s (length h.entries) (rw e (omega arith))) (omega arith)))

-- the rows of what the reader hands over, how many they are, and how many were read
rows_fit : (s : List ℕ) → (length (reading s).1.rows ≡ most_rows) × ((reading s).1.count ≤ most_rows) × (rows_read (sheet s 0) ≤ most_rows)
rows_fit s = go (sheet s 0) refl
  where
    go : (x : Step Held) → sheet s 0 ≡ x → (length (reading_of x).1.rows ≡ most_rows) × ((reading_of x).1.count ≤ most_rows) × (rows_read x ≤ most_rows)
    go (refuse k p) e = (length-replicate most_rows no_row, omega arith, omega arith)
    go (ok h n) e =
        let few = (read_is_legal s h n e).at_most_rows in
        (simp (length-append, length-map, length-replicate) (omega arith), few, few)

pub rows_long : (s : List ℕ) → length (reading s).1.rows ≡ most_rows
rows_long s = (rows_fit s).0

pub rows_few : (s : List ℕ) → (reading s).1.count ≤ most_rows
rows_few s = (rows_fit s).1

module _ (s : List ℕ) (o : Outcome) (l b : List ℕ) (e : lists o l b ≡ read_into s (zeros (sheet_long most_rows)) (zeros (labels_long most_rows))) where
  whole : lists o l b ≡ lists (reading s).0 (filled (sheet_cell (reading s).1) (zeros (sheet_long most_rows))) (filled (label_cell s) (zeros (labels_long most_rows)))
  whole = e ∙ own_lists (sheet_long most_rows) (labels_long most_rows) (omega arith) (omega arith) s

  -- `read`
  pub sheet_was_read : (h : Sheet) → h ≡ sheet_in l → ◌≡◌ {A = Outcome × Sheet} (o, h) (reading s)
  sheet_was_read h eh =
      let back : h ≡ (reading s).1 = eh ∙ ap (λ (x : Lists). sheet_in x.1.0) whole ∙ whole_sheet_comes_back (reading s).1 (zeros (sheet_long most_rows)) (rows_long s) (omega (arith, zeros_long (sheet_long most_rows))) in
      ap₂ (λ (x : Outcome) (y : Sheet). (x, y)) (ap (λ (x : Lists). x.0) whole) back

  -- the labels
  pub part_was_read : (k : ℕ) → k < most_rows → (p : Part) → p ≡ part_in b k → p ≡ label_in s k
  unfolding part_in
  part_was_read k h p ep =
      let number : (i : ℕ) → i < labels_long most_rows → number_at b i ≡ label_cell s i =
      λ i l. ap (λ (x : Lists). number_at x.1.1 i) whole ∙ filled_read (label_cell s) (zeros (labels_long most_rows)) i (λ z. absurd (omega (arith, zeros_long (labels_long most_rows)))) in
      ep ∙ ap₂ (λ (x y : ℕ). record { start = x; long = y }) (number (k * 2) (omega arith) ∙ first_cell (λ j. (label_in s j).start) (λ j. (label_in s j).long) k)
      (number (k * 2 + 1) (omega arith) ∙ second_cell (λ j. (label_in s j).start) (λ j. (label_in s j).long) k)

-- `read` where it is refused
pub none_was_read : (s : List ℕ) (k p : ℕ) (l b : List ℕ) → lists (refused k p) l b ≡ read_into s (zeros (sheet_long most_rows)) (zeros (labels_long most_rows))
    → ◌≡◌ {A = Outcome × Sheet} (refused k p, no_sheet) (reading s)
none_was_read s k p l b e = go (sheet s 0) refl
  where
    go : (x : Step Held) → sheet s 0 ≡ x → ◌≡◌ {A = Outcome × Sheet} (refused k p, no_sheet) (reading_of x)
    go (refuse j q) f = ap (λ (o : Outcome). (o, no_sheet)) (ap (λ (x : Lists). x.0) (whole s (refused k p) l b e) ∙ ap (λ (x : Step Held). (reading_of x).0) f)
    go (ok h n) f = let z : refused k p ≡ accepted = ap (λ (x : Lists). x.0) (whole s (refused k p) l b e) ∙ ap (λ (x : Step Held). (reading_of x).0) f in cc

-- no label past the rows that a sheet may have
pub no_part : (s : List ℕ) (k : ℕ) → most_rows ≤ k → nowhere ≡ label_in s k
no_part s k h = sym (no_label s k (omega (arith, rows_fit s)))

-- `label_parts`
pub one_part_more : (s b : List ℕ) (parts : List Part) (i : ℕ) → parts ≡ upto i (label_in s) no_parts → i < most_rows → ((k : ℕ) → k < most_rows → part_in b k ≡ label_in s k) → (p : Part) → p ≡ part_in b i
    → set parts i p ≡ upto (i + 1) (label_in s) no_parts
one_part_more s b parts i so_far h all p ep = upto_set i (label_in s) parts no_parts p so_far (ep ∙ all i h)
