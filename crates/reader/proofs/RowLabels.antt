-- The laws of a label: 1 to 16 bytes of 21..7E inside the sheet, the very label that was read, or empty: exactly where the reader refuses or the row number is n or more. Assumes nothing.
use Rattle.basis.specs.Prelude.{ℕ, ◌+◌, ◌≤◌, ◌<◌, ◌≡◌, refl, sym, ap, ◌∙◌, true, ◌⊎◌, inl, inr, ⊎_elim, ◌↔◌, List, [], map, arith, not-suc-le-zero, length, get_or, take, drop, ltb, lt-ltb, le-ltb, ◌-◌, ◌^◌, add-sub_cancel_left, w64, Fits}
use Rattle.reader.proofs.Names.{longest_label, accepted, refused, Step, ok, refuse, ok_same, lt_or_le, bounded, Held, entry_label, is_plain, sheet, label_head, reading_of, reading, nowhere, rows_read, part_after, label_in, Part, part}
use Rattle.basis.specs.Words.{pick}
use denote.Ref.{Bor}
use Rattle.reader.proofs.Inside.LabelPlaces.{found}

-- the part p of the bytes s is the label of row i
pub record Labels (s : List ℕ) (i : ℕ) (p : Part) : Type 0 where
  pub some : 1 ≤ p.long
  pub short : p.long ≤ longest_label
  pub inside : p.start + p.long ≤ length s
  pub plainly : (j : ℕ) → j < p.long → is_plain (get_or s (p.start + j) 0) ≡ true
  pub is_read : (h : Held) (n : ℕ) → sheet s 0 ≡ ok h n → take p.long (drop p.start s) ≡ get_or (map entry_label h.entries) i []

-- a row that was read has its label
pub label_of_row : (s : List ℕ) (i : ℕ) → i < rows_read (sheet s 0) → Labels s i (label_in s i)
unfolding label_in
label_of_row s i l = go (sheet s 0) refl l
  where
    go : (x : Step Held) → sheet s 0 ≡ x → i < rows_read x → Labels s i (pick (ltb i (rows_read (sheet s 0))) (part_after (label_head i s 0)) nowhere)
    go (ok h n) e g =
        let f = found s i h n e g in
        let b = bounded longest_label 6 6 _ _ _ _ f.lies.head in
        simp (e, lt-ltb i (length h.entries) g, f.head) (record {
          some = b.positive;
          short = b.not_over;
          inside = f.lies.inside;
          plainly = f.lies.plainly;
          is_read = λ k m q. sym f.lies.bytes ∙ sym f.is ∙ ap (λ (x : Held). get_or (map entry_label x.entries) i []) (ok_same (sym e ∙ q)).0;
        })
    go (refuse k p) e g = absurd (not-suc-le-zero g)

pub no_label : (s : List ℕ) (i : ℕ) → rows_read (sheet s 0) ≤ i → label_in s i ≡ nowhere
unfolding label_in
no_label s i l = simp (le-ltb i (rows_read (sheet s 0)) l)

-- it is empty exactly where there is no such row
pub label_empty : (s : List ℕ) (i : ℕ) → ((label_in s i).long ≡ 0) ↔ (rows_read (sheet s 0) ≤ i)
label_empty s i = (
  λ e. ⊎_elim (λ l. absurd (omega (arith, (label_of_row s i l).some))) (λ l. l) (lt_or_le i (rows_read (sheet s 0))),
  λ l. ap (λ (p : Part). p.long) (no_label s i l),
)

-- which is where the reader refuses, or the row number is n or more
pub missing_row : (s : List ℕ) (i : ℕ) → (rows_read (sheet s 0) ≤ i) ↔ (((k : ℕ) × (p : ℕ) × ((reading s).0 ≡ refused k p)) ⊎ (((reading s).0 ≡ accepted) × ((reading s).1.count ≤ i)))
missing_row s i = go (sheet s 0) refl
  where
    go : (x : Step Held) → sheet s 0 ≡ x → (rows_read x ≤ i) ↔ (((k : ℕ) × (p : ℕ) × ((reading_of x).0 ≡ refused k p)) ⊎ (((reading_of x).0 ≡ accepted) × ((reading_of x).1.count ≤ i)))
    go (ok h n) e = (λ l. inr (refl, l), ⊎_elim (λ r. absurd (differ r.2)) (λ r. r.1))
      where
        differ : {k p : ℕ} → accepted ≡ refused k p → ⊥
        differ q = let z : ◌≡◌ {A = ℕ} 0 1 = cc in omega arith
    go (refuse k p) e = (λ l. inl (k, p, refl), λ r. omega arith)

-- ---- what a part of the bytes shows

-- a label lies within the bytes
pub label_in_bytes : (s : List ℕ) (i : ℕ) → (label_in s i).start + (label_in s i).long ≤ length s
label_in_bytes s i = ⊎_elim (λ l. (label_of_row s i l).inside) (λ l. rw (no_label s i l) (omega arith)) (lt_or_le i (rows_read (sheet s 0)))

module _ (s : Bor (List ℕ)) (i : ℕ) (p : Part) (e : p ≡ label_in s.now i) where
  pub part_fits : p.start + p.long ≤ length s.now
  part_fits = rw e (label_in_bytes s.now i)

  -- so that its end is a place
  pub part_ends : length s.now < 2 ^ 64 → Fits w64 (p.start + p.long)
  part_ends b = record { fits = omega (arith, part_fits) }

  pub part_shown : ((s.ref_ptr.0, p.start + s.ref_ptr.1), take (p.start + p.long - p.start) (drop p.start s.now)) ≡ part s (label_in s.now i)
  part_shown = rw add-sub_cancel_left (ap (part s) e)
