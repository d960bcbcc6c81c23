-- The functions that measure a sheet: the room that is left after the rows so far; and that the sum is the length of what is written. Assumes nothing.
use Rattle.basis.specs.Prelude.{ℕ, zero, suc, ◌+◌, ◌-◌, ◌≤◌, ◌<◌, ◌≡◌, refl, sym, ap, ap₂, ◌∙◌, true, false, List, [], ◌∷◌, ◌++◌, arith, length, length-append, leb, lt-leb, le-leb}
use Rattle.writer.proofs.Names.{accepted, spell, mark_bytes, Entry, part_of, entry_of, held_by, first_rows, check_sheet, label_bytes, row_bytes, entry_bytes, entries_bytes, head_bytes, sheet_bytes, sum_grows, sum_one_more, sum, spelt, width, longest_row, longest_sheet, part_in, Part, row_at, Row, Sheet, long_at, entry_long, head_long, row_long, sheet_length}
use Rattle.writer.proofs.Inside.Checks.{label_long, checked_at}
use Rattle.writer.proofs.Inside.Rows.{rows_count, entries_both}

-- `row_length`
pub row_measured : (row : Row) (a b c d : ℕ) → a ≡ width row.threads → b ≡ width row.separation → c ≡ width row.deadline → d ≡ width row.budget
    → a + b + c + d ≡ row_long row
unfolding row_long
row_measured row a b c d ea eb ec ed = omega (arith, ea, eb, ec, ed)

-- `head_length`
pub head_measured : (m n a b : ℕ) → a ≡ width m → b ≡ width n → 4 + a + b ≡ head_long m n
unfolding head_long
head_measured m n a b ea eb = omega (arith, ea, eb)

-- `fits`
pub fits_longest : (h : Sheet) (labels : List ℕ) (room : ℕ) → sheet_length h labels ≤ longest_sheet → 870 ≤ room → true ≡ leb (sheet_length h labels) room
unfolding longest_sheet longest_row width spelt
fits_longest h labels room a b = sym (le-leb (sheet_length h labels) room (omega arith))

pub fits_none : (h : Sheet) (labels : List ℕ) (head room : ℕ) → head ≤ room → room - head + (head + sum 0 (long_at h labels)) ≡ room
unfolding sum
fits_none h labels head room b = omega arith

pub head_is : (h : Sheet) (m n head : ℕ) → m ≡ h.processors → head ≡ head_long m n → head ≡ head_long h.processors n
head_is h m n head e f = f ∙ ap (λ (x : ℕ). head_long x n) e

module _ (h : Sheet) (labels : List ℕ) (n head room : ℕ) (en : n ≡ h.count) (eh : head ≡ head_long h.processors n) where
  whole_is : sheet_length h labels ≡ head + sum n (long_at h labels)
  unfolding sheet_length
  whole_is = ap₂ (λ (x : ℕ) (k : ℕ). x + sum k (long_at h labels)) (ap (head_long h.processors) (sym en) ∙ sym eh) (sym en)

  too_long : room < head + sum n (long_at h labels) → false ≡ leb (sheet_length h labels) room
  too_long b = sym (lt-leb (sheet_length h labels) room (omega (arith, whole_is)))

  module _ (left i : ℕ) (so_far : left + (head + sum i (long_at h labels)) ≡ room) where
    pub fits_all : i ≤ n → n ≤ i → true ≡ leb (sheet_length h labels) room
    fits_all a b = let z : i ≡ n = omega arith in sym (le-leb (sheet_length h labels) room (omega (arith, whole_is, ap (λ (k : ℕ). sum k (long_at h labels)) z)))

    module _ (p : Part) (ep : p ≡ part_in labels i) (a b : ℕ) (row : Row) (er : row ≡ row_at h i) (ea : a ≡ width p.long) (eb : b ≡ row_long row) where
      row_takes : a + p.long + b ≡ long_at h labels i
      unfolding entry_long
      row_takes = ap₂ (λ (x : ℕ) (y : ℕ). x + p.long + y) ea (eb ∙ ap row_long er) ∙ ap (λ (q : Part). width q.long + q.long + row_long (row_at h i)) ep

      pub fits_no_row : i < n → left - p.long < a + b → p.long ≤ left → false ≡ leb (sheet_length h labels) room
      fits_no_row c d e = too_long (omega (arith, row_takes, sum_one_more i (long_at h labels), sum_grows (i + 1) n (long_at h labels) (omega arith)))

      pub fits_more : a + b ≤ left - p.long → p.long ≤ left → left - p.long - (a + b) + (head + sum (i + 1) (long_at h labels)) ≡ room
      fits_more d e = omega (arith, row_takes, sum_one_more i (long_at h labels))

    pub fits_no_label : (p : Part) → p ≡ part_in labels i → i < n → left < p.long → false ≡ leb (sheet_length h labels) room
    fits_no_label p ep c d =
        too_long (omega (arith, row_takes p ep (width p.long) (row_long (row_at h i)) (row_at h i) refl refl refl, sum_one_more i (long_at h labels), sum_grows (i + 1) n (long_at h labels) (omega arith)))

pub fits_no_head : (h : Sheet) (labels : List ℕ) (m n head room : ℕ) → n ≡ h.count → m ≡ h.processors → head ≡ head_long m n → room < head → false ≡ leb (sheet_length h labels) room
fits_no_head h labels m n head room en em eh b = too_long h labels n head room en (head_is h m n head em eh) (omega arith)

-- ---- the sum is the length

pub row_bytes_long : (row : Row) → length (row_bytes row) ≡ row_long row
unfolding row_bytes row_long width
row_bytes_long row =
    omega (
      arith,
      length-append (spell row.threads) (spell row.separation ++ (spell row.deadline ++ spell row.budget)),
      length-append (spell row.separation) (spell row.deadline ++ spell row.budget),
      length-append (spell row.deadline) (spell row.budget),
    )

pub head_bytes_long : (m n : ℕ) → length (head_bytes m n) ≡ head_long m n
unfolding head_bytes head_long width
head_bytes_long m n = omega (arith, length-append mark_bytes (spell m ++ spell n), length-append (spell m) (spell n))

module _ (h : Sheet) (s labels : List ℕ) (e : check_sheet h s labels ≡ accepted) where
  entry_bytes_long : (k : ℕ) → k < h.count → length (entry_bytes (entry_of h s labels k)) ≡ long_at h labels k
  unfolding entry_bytes entry_long width
  entry_bytes_long k b =
      let l : List ℕ = part_of s (part_in labels k) in
      let long : length l ≡ (part_in labels k).long = label_long s labels k (checked_at h s labels e k b) in
      omega (arith, ap (λ (j : ℕ). length (spell j)) long, length-append (label_bytes l) (row_bytes (row_at h k)), length-append (spell (length l)) l, row_bytes_long (row_at h k))

  rows_bytes_long : (n : ℕ) → n ≤ h.count → length (entries_bytes (first_rows n (entry_of h s labels))) ≡ sum n (long_at h labels)
  unfolding sum first_rows entries_bytes
  rows_bytes_long zero b = refl
  rows_bytes_long (suc n) b =
      let f : ℕ → Entry = entry_of h s labels in
      omega (arith, ap length (entries_both (first_rows n f) (f n ∷ [])), length-append (entries_bytes (first_rows n f)) (entry_bytes (f n) ++ []), length-append (entry_bytes (f n)) [], rows_bytes_long n (omega arith), entry_bytes_long n b)

  pub long_sheet : length (sheet_bytes (held_by h s labels)) ≡ sheet_length h labels
  unfolding sheet_bytes sheet_length
  long_sheet =
      let es : List Entry = first_rows h.count (entry_of h s labels) in
      omega (arith, length-append (head_bytes h.processors (length es)) (entries_bytes es), ap (λ (k : ℕ). length (head_bytes h.processors k)) (rows_count h.count (entry_of h s labels)), head_bytes_long h.processors h.count, rows_bytes_long h.count (omega arith))
