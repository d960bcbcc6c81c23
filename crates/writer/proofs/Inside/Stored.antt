-- The functions that write: each part is stored after the one before it. Assumes nothing.
use Rattle.basis.specs.Prelude.{ℕ, ◌+◌, ◌-◌, ◌^◌, ◌≤◌, ◌<◌, ◌≡◌, refl, sym, ap, ap₂, ◌∙◌, Bool, true, false, leb, leb-true, List, ◌++◌, arith, add-zero, zero-add, length, length-append, take, drop, sets, w64, Fits}
use Rattle.writer.proofs.Names.{written_whole, answer, nothing_by, written_by, Outcome, refused, sheet_length, write_sheet, sets_after, longest_label, accepted, spell, width, Entry, mark_bytes, part_in, Part, row_at, Row, Sheet, part_of, entry_of, held_by, first_rows, label_at, check_sheet, sheet_bytes, label_bytes, row_bytes, entry_bytes, entries_bytes, head_bytes}
use Rattle.writer.proofs.Inside.Checks.{label_inside, label_long, label_short, checked_at}
use Rattle.writer.proofs.Inside.Lengths.{row_measured, head_measured, row_bytes_long, head_bytes_long, long_sheet}
use Rattle.writer.proofs.Inside.Rows.{rows_count, rows_more}

-- one part after another
pub both_stored : (l₀ l₁ l₂ : List ℕ) (at next : ℕ) (xs ys : List ℕ) → l₁ ≡ sets l₀ at xs → next ≡ at + length xs → l₂ ≡ sets l₁ next ys → l₂ ≡ sets l₀ at (xs ++ ys)
both_stored l₀ l₁ l₂ at next xs ys e n f = f ∙ ap₂ (λ (l : List ℕ) (k : ℕ). sets l k ys) e n ∙ sets_after l₀ at xs ys

number_long : (at v a : ℕ) → a ≡ width v → at + a ≡ at + length (spell v)
unfolding width
number_long at v a e = ap (λ (k : ℕ). at + k) e

-- `write_label`
module _ (label : List ℕ) (at a : ℕ) (ea : a ≡ width (length label)) where
  pub label_next : at + a + length label ≡ at + length (label_bytes label)
  label_next = omega (arith, number_long at (length label) a ea, length-append (spell (length label)) label)

  pub label_stored : (l₀ l₁ l₂ : List ℕ) → l₁ ≡ sets l₀ at (spell (length label)) → l₂ ≡ sets l₁ (at + a) label → l₂ ≡ sets l₀ at (label_bytes label)
  label_stored l₀ l₁ l₂ e f = both_stored l₀ l₁ l₂ at (at + a) (spell (length label)) label e (number_long at (length label) a ea) f

-- `write_row`
module _ (row : Row) (at a b c d : ℕ) (ea : a ≡ width row.threads) (eb : b ≡ width row.separation) (ec : c ≡ width row.deadline) (ed : d ≡ width row.budget) where
  pub row_next : at + a + b + c + d ≡ at + length (row_bytes row)
  row_next = omega (arith, row_measured row a b c d ea eb ec ed, row_bytes_long row)

  pub row_stored : (l₀ l₁ l₂ l₃ l₄ : List ℕ) → l₁ ≡ sets l₀ at (spell row.threads) → l₂ ≡ sets l₁ (at + a) (spell row.separation)
      → l₃ ≡ sets l₂ (at + a + b) (spell row.deadline) → l₄ ≡ sets l₃ (at + a + b + c) (spell row.budget) → l₄ ≡ sets l₀ at (row_bytes row)
  unfolding row_bytes
  row_stored l₀ l₁ l₂ l₃ l₄ e₁ e₂ e₃ e₄ =
      both_stored l₀ l₁ l₄ at (at + a) (spell row.threads) _ e₁ (number_long at row.threads a ea)
      (both_stored l₁ l₂ l₄ (at + a) (at + a + b) (spell row.separation) _ e₂ (number_long (at + a) row.separation b eb)
      (both_stored l₂ l₃ l₄ (at + a + b) (at + a + b + c) (spell row.deadline) _ e₃ (number_long (at + a + b) row.deadline c ec) e₄))

-- `write_head`
module _ (m n a b : ℕ) (ea : a ≡ width m) (eb : b ≡ width n) where
  pub head_next : 4 + a + b ≡ length (head_bytes m n)
  head_next = omega (arith, head_measured m n a b ea eb, head_bytes_long m n)

  pub head_stored : (l₀ l₁ l₂ l₃ : List ℕ) → l₁ ≡ sets l₀ 0 mark_bytes → l₂ ≡ sets l₁ 4 (spell m) → l₃ ≡ sets l₂ (4 + a) (spell n) → l₃ ≡ sets l₀ 0 (head_bytes m n)
  unfolding head_bytes
  head_stored l₀ l₁ l₂ l₃ e₁ e₂ e₃ =
      both_stored l₀ l₁ l₃ 0 4 mark_bytes (spell m ++ spell n) e₁ refl (both_stored l₁ l₂ l₃ 4 (4 + a) (spell m) (spell n) e₂ (number_long 4 m a ea) e₃)

-- `write_entry`
module _ (h : Sheet) (s labels : List ℕ) (fine : check_sheet h s labels ≡ accepted) (n : ℕ) (en : n ≡ h.count) (k : ℕ) (b : k < n) (p : Part) (ep : p ≡ part_in labels k) where
  e : label_at s labels k ≡ accepted
  e = checked_at h s labels fine k (omega arith)

  pub part_lies : p.start + p.long ≤ length s
  part_lies = rw ep (label_inside s labels k e)

  -- so that its end is a place
  pub part_ends : length s < 2 ^ 64 → Fits w64 (p.start + p.long)
  part_ends b = record { fits = omega (arith, part_lies) }

  abbrev cut : List ℕ
  cut = take (p.start + p.long - p.start) (drop p.start s)

  cut_is : cut ≡ part_of s (part_in labels k)
  cut_is = let z : p.start + p.long - p.start ≡ p.long = omega arith in ap (λ (j : ℕ). take j (drop p.start s)) z ∙ ap (part_of s) ep

  pub cut_short : length cut ≤ longest_label
  cut_short = omega (arith, ap length cut_is, label_long s labels k e, label_short s labels k e)

  module _ (row : Row) (er : row ≡ row_at h k) (at next : ℕ) (ex : next ≡ at + length (label_bytes cut)) where
    entry_is : label_bytes cut ++ row_bytes row ≡ entry_bytes (entry_of h s labels k)
    unfolding entry_bytes
    entry_is = ap₂ (λ (x : List ℕ) (y : Row). label_bytes x ++ row_bytes y) cut_is er

    pub entry_next : (r : ℕ) → r ≡ next + length (row_bytes row) → r ≡ at + length (entry_bytes (entry_of h s labels k))
    entry_next r q = omega (arith, ap length entry_is, length-append (label_bytes cut) (row_bytes row))

    pub entry_stored : (l₀ l₁ l₂ : List ℕ) → l₁ ≡ sets l₀ at (label_bytes cut) → l₂ ≡ sets l₁ next (row_bytes row) → l₂ ≡ sets l₀ at (entry_bytes (entry_of h s labels k))
    entry_stored l₀ l₁ l₂ f g = both_stored l₀ l₁ l₂ at next (label_bytes cut) (row_bytes row) f ex g ∙ ap (sets l₀ at) entry_is

-- `write_rows`
module _ (f : ℕ → Entry) (at i next : ℕ) (en : next ≡ at + length (entries_bytes (first_rows i f))) where
  pub rows_next : (r : ℕ) → r ≡ next + length (entry_bytes (f i)) → r ≡ at + length (entries_bytes (first_rows (i + 1) f))
  rows_next r e = omega (arith, ap length (rows_more i f), length-append (entries_bytes (first_rows i f)) (entry_bytes (f i)))

  pub rows_all : (n : ℕ) → i ≤ n → n ≤ i → next ≡ at + length (entries_bytes (first_rows n f))
  rows_all n a b = let z : i ≡ n = omega arith in en ∙ ap (λ (k : ℕ). at + length (entries_bytes (first_rows k f))) z

  module _ (l₀ l : List ℕ) (so_far : l ≡ sets l₀ at (entries_bytes (first_rows i f))) where
    pub rows_stored : (l' : List ℕ) → l' ≡ sets l next (entry_bytes (f i)) → l' ≡ sets l₀ at (entries_bytes (first_rows (i + 1) f))
    rows_stored l' e = both_stored l₀ l l' at next (entries_bytes (first_rows i f)) (entry_bytes (f i)) so_far en e ∙ ap (sets l₀ at) (sym (rows_more i f))

    pub rows_stored_all : (n : ℕ) → i ≤ n → n ≤ i → l ≡ sets l₀ at (entries_bytes (first_rows n f))
    rows_stored_all n a b = let z : i ≡ n = omega arith in so_far ∙ ap (λ (k : ℕ). sets l₀ at (entries_bytes (first_rows k f))) z

pub rows_none : (f : ℕ → Entry) (at : ℕ) → at ≡ at + length (entries_bytes (first_rows 0 f))
unfolding first_rows entries_bytes
rows_none f at = sym (add-zero at)

pub rows_not_stored : (f : ℕ → Entry) (at : ℕ) (l : List ℕ) → l ≡ sets l at (entries_bytes (first_rows 0 f))
unfolding first_rows entries_bytes
rows_not_stored f at l = refl

-- `write_all`
module _ (h : Sheet) (s labels : List ℕ) (n : ℕ) (en : n ≡ h.count) where
  module _ (m : ℕ) (em : m ≡ h.processors) (next : ℕ) (ex : next ≡ length (head_bytes m n)) where
    sheet_is : head_bytes m n ++ entries_bytes (first_rows n (entry_of h s labels)) ≡ sheet_bytes (held_by h s labels)
    unfolding sheet_bytes
    sheet_is =
        ap₂ (λ (x : ℕ) (y : ℕ). head_bytes x y ++ entries_bytes (first_rows n (entry_of h s labels))) em (en ∙ sym (rows_count h.count (entry_of h s labels)))
        ∙ ap (λ (k : ℕ). head_bytes h.processors (length (first_rows h.count (entry_of h s labels))) ++ entries_bytes (first_rows k (entry_of h s labels))) en

    pub sheet_next : (r : ℕ) → r ≡ next + length (entries_bytes (first_rows n (entry_of h s labels))) → r ≡ length (sheet_bytes (held_by h s labels))
    sheet_next r q = omega (arith, ap length sheet_is, length-append (head_bytes m n) (entries_bytes (first_rows n (entry_of h s labels))))

    pub sheet_stored : (l₀ l₁ l₂ : List ℕ) → l₁ ≡ sets l₀ 0 (head_bytes m n) → l₂ ≡ sets l₁ next (entries_bytes (first_rows n (entry_of h s labels))) → l₂ ≡ sets l₀ 0 (sheet_bytes (held_by h s labels))
    sheet_stored l₀ l₁ l₂ f g = both_stored l₀ l₁ l₂ 0 next (head_bytes m n) (entries_bytes (first_rows n (entry_of h s labels))) f (ex ∙ sym (zero-add (length (head_bytes m n)))) g ∙ ap (sets l₀ 0) sheet_is

-- `write`
module _ (h : Sheet) (s labels : List ℕ) (e : check_sheet h s labels ≡ accepted) (out : List ℕ) (t : Bool) (et : t ≡ leb (sheet_length h labels) (length out)) where
  pub no_room : t ≡ false → nothing_by (refused 15 0) out ≡ write_sheet h s labels out
  unfolding write_sheet
  no_room f =
      let b : leb (length (sheet_bytes (held_by h s labels))) (length out) ≡ false = ap (λ (k : ℕ). leb k (length out)) (long_sheet h s labels e) ∙ sym et ∙ f in
      sym (simp (e, b))

  pub all_written : t ≡ true → (k : ℕ) (out' : List ℕ) → k ≡ length (sheet_bytes (held_by h s labels)) → out' ≡ sets out 0 (sheet_bytes (held_by h s labels)) → answer accepted k out' ≡ write_sheet h s labels out
  unfolding write_sheet
  all_written f k out' ek eo =
      let room : length (sheet_bytes (held_by h s labels)) ≤ length out = omega (arith, long_sheet h s labels e, leb-true (sheet_length h labels) (length out) (sym et ∙ f)) in
      ap₂ (λ (x : ℕ) (y : List ℕ). answer accepted x y) ek eo ∙ sym (written_whole (check_sheet h s labels) (sheet_bytes (held_by h s labels)) out e room)

-- `write_sheet`
pub sheet_refused : (h : Sheet) (s labels out : List ℕ) (a b : ℕ) → refused a b ≡ check_sheet h s labels → nothing_by (refused a b) out ≡ write_sheet h s labels out
unfolding write_sheet
sheet_refused h s labels out a b e = ap (λ (o : Outcome). written_by o (sheet_bytes (held_by h s labels)) out) e
