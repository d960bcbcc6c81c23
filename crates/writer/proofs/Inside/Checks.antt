-- Each way out of the functions that check, and what is known where nothing is refused. Assumes nothing.
use Rattle.basis.specs.Prelude.{ℕ, ◌+◌, ◌*◌, ◌-◌, ◌≤◌, ◌<◌, ◌≡◌, refl, sym, ap, ◌∙◌, Bool, true, false, ⊎_elim, List, arith, length, length-take, length-drop, take, drop, get_or, get_or-take, get_or-drop, leb, lt-leb, le-leb, leb-true}
use Rattle.writer.proofs.Names.{both_accepted, first_at, first_found, first_more, all_fails, all_one_more, all_true, at_most, both_left, both_right, both_true, lt_or_le, within_true, needed_holds, longest_label, most_rows, Outcome, accepted, needed, refused, first_of, both, pick, within, all_of, is_plain, part_in, Part, legal_is, legal, number_at, Sheet, part_of, plain_at, check_sheet, is_label, label_at, label_lies}

-- `part_of`
pub part_read : (labels : List ℕ) (k a b : ℕ) → a ≡ number_at labels (k * 2) → b ≡ number_at labels (k * 2 + 1) → record { start = a; long = b } ≡ part_in labels k
unfolding part_in
part_read labels k a b ea eb = λ i. record { start = ea i; long = eb i }

-- ---- `is_plain`

module _ (l : List ℕ) (i : ℕ) where
  pub plain_low : i < length l → get_or l i 0 < 0x21 → false ≡ all_of (length l) (plain_at l)
  plain_low h b = sym (all_fails (length l) (plain_at l) i h (rw (lt-leb 0x21 (get_or l i 0) b)))

  pub plain_high : i < length l → 0x7E < get_or l i 0 → false ≡ all_of (length l) (plain_at l)
  plain_high h b = sym (all_fails (length l) (plain_at l) i h (both_no (leb 0x21 (get_or l i 0)) (lt-leb (get_or l i 0) 0x7E b)))
    where
      both_no : (a : Bool) {b : Bool} → b ≡ false → both a b ≡ false
      both_no true e = e
      both_no false e = refl

  module _ (so_far : all_of i (plain_at l) ≡ true) where
    pub plain_more : 0x21 ≤ get_or l i 0 → get_or l i 0 ≤ 0x7E → all_of (i + 1) (plain_at l) ≡ true
    plain_more a b = all_one_more i (plain_at l) ∙ both_true (all_of i (plain_at l)) (plain_at l i) so_far (within_true 0x21 0x7E (get_or l i 0) a b)

    pub plain_whole : i ≤ length l → length l ≤ i → true ≡ all_of (length l) (plain_at l)
    plain_whole a b = let e : i ≡ length l = omega arith in sym (ap (λ (k : ℕ). all_of k (plain_at l)) (sym e) ∙ so_far)

-- ---- `label_lies`

module _ (s : List ℕ) (p : Part) where
  -- a part that lies inside is as long as it says
  pub part_long : p.start + p.long ≤ length s → length (part_of s p) ≡ p.long
  part_long h = length-take p.long (drop p.start s) ∙ omega (arith, length-drop p.start s)

  -- one that lies outside is none
  pub lies_outside : length s < p.start + p.long → false ≡ label_lies s p
  unfolding label_lies
  lies_outside h = sym (rw (lt-leb (p.start + p.long) (length s) h))

  -- its length decides first
  pub lies_not_so_long : (within 1 longest_label p.long ≡ false) → false ≡ label_lies s p
  unfolding label_lies is_label
  lies_not_so_long e =
      ⊎_elim lies_outside (λ h. sym (simp (le-leb (p.start + p.long) (length s) h, part_long h, e)))
      (lt_or_le (length s) (p.start + p.long))

  pub lies_none : p.long < 1 → false ≡ label_lies s p
  lies_none h = lies_not_so_long (rw (lt-leb 1 p.long h))

  pub lies_long : 1 ≤ p.long → longest_label < p.long → false ≡ label_lies s p
  lies_long a h = lies_not_so_long (rw (le-leb 1 p.long a, lt-leb p.long longest_label h))

  pub lies_short_bytes : length s < p.long → false ≡ label_lies s p
  lies_short_bytes h = lies_outside (omega arith)

  pub lies_past : p.long ≤ length s → length s - p.long < p.start → false ≡ label_lies s p
  lies_past a h = lies_outside (omega arith)

  -- then its bytes
  pub lies_by_bytes : 1 ≤ p.long → p.long ≤ longest_label → p.long ≤ length s → p.start ≤ length s - p.long → (t : Bool)
      → t ≡ all_of (length (take (p.start + p.long - p.start) (drop p.start s))) (plain_at (take (p.start + p.long - p.start) (drop p.start s))) → t ≡ label_lies s p
  unfolding label_lies is_label
  lies_by_bytes a b c d t e =
      let h : p.start + p.long ≤ length s = omega arith in
      let cut : p.start + p.long - p.start ≡ p.long = omega arith in
      let et : t ≡ all_of (length (part_of s p)) (plain_at (part_of s p)) = e ∙ ap (λ (k : ℕ). all_of (length (take k (drop p.start s))) (plain_at (take k (drop p.start s)))) cut in
      let w : within 1 longest_label (length (part_of s p)) ≡ true = rw (part_long h) (within_true 1 longest_label p.long a b) in
      et ∙ sym (simp (le-leb (p.start + p.long) (length s) h, w))

-- a part that lies inside, of so many bytes that a label may have, is a label
pub part_is_label : (s : List ℕ) (p : Part) → 1 ≤ p.long → p.long ≤ longest_label → p.start + p.long ≤ length s → ((j : ℕ) → j < p.long → is_plain (get_or s (p.start + j) 0) ≡ true) → is_label (part_of s p) ≡ true
unfolding is_label
part_is_label s p a b h all =
    let long = part_long s p h in
    both_true (within 1 longest_label (length (part_of s p))) (all_of (length (part_of s p)) (plain_at (part_of s p)))
    (rw long (within_true 1 longest_label p.long a b))
    (all_true (length (part_of s p)) (plain_at (part_of s p)) (λ j c.
    ap is_plain (get_or-take p.long (drop p.start s) j 0 (omega arith) ∙ get_or-drop p.start s j 0) ∙ all j (omega arith)))

-- ---- `check_labels`

module _ (s labels : List ℕ) (n i : ℕ) (p : Part) (ep : p ≡ part_in labels i) (t : Bool) (et : t ≡ label_lies s p) where
  one_is : label_at s labels i ≡ pick t accepted (refused 6 i)
  unfolding label_at
  one_is = ap (λ (b : Bool). pick b accepted (refused 6 i)) (sym (et ∙ ap (label_lies s) ep))

  module _ (so_far : first_of i (label_at s labels) ≡ accepted) where
    pub labels_more : t ≡ true → first_of (i + 1) (label_at s labels) ≡ accepted
    labels_more q = first_more i (label_at s labels) so_far (one_is ∙ ap (λ (b : Bool). pick b accepted (refused 6 i)) q)

    pub labels_refused : i < n → t ≡ false → refused 6 i ≡ first_of n (label_at s labels)
    labels_refused h q = sym (first_found n i (label_at s labels) 6 i h so_far (one_is ∙ ap (λ (b : Bool). pick b accepted (refused 6 i)) q))

pub labels_fine : (s labels : List ℕ) (n i : ℕ) → first_of i (label_at s labels) ≡ accepted → i ≤ n → n ≤ i → accepted ≡ first_of n (label_at s labels)
labels_fine s labels n i e a b = let z : i ≡ n = omega arith in sym (ap (λ (k : ℕ). first_of k (label_at s labels)) (sym z) ∙ e)

-- ---- `check_sheet`

module _ (h : Sheet) (s labels : List ℕ) (t : Bool) (et : t ≡ legal h) where
  pub sheet_illegal : t ≡ false → refused 10 0 ≡ check_sheet h s labels
  unfolding check_sheet
  sheet_illegal q = sym (rw (sym et ∙ q))

  module _ (q : t ≡ true) (n : ℕ) (en : n ≡ h.count) where
    pub few_rows : n ≤ most_rows
    few_rows = omega (arith, (legal_is h (sym et ∙ q)).at_most_rows)

    pub sheet_legal : (o : Outcome) → o ≡ first_of n (label_at s labels) → o ≡ check_sheet h s labels
    unfolding check_sheet
    sheet_legal o e = e ∙ ap (λ (k : ℕ). first_of k (label_at s labels)) en ∙ sym (rw (sym et ∙ q))

-- ---- what is known where nothing is refused

module _ (s labels : List ℕ) (k : ℕ) (e : label_at s labels k ≡ accepted) where
  pub label_is_there : label_lies s (part_in labels k) ≡ true
  unfolding label_at
  label_is_there = go (label_lies s (part_in labels k)) e
    where
      go : (t : Bool) → pick t accepted (refused 6 k) ≡ accepted → t ≡ true
      go true f = refl
      go false f = let z : ◌≡◌ {A = ℕ} 0 1 = cc in absurd (omega arith)

  pub label_inside : (part_in labels k).start + (part_in labels k).long ≤ length s
  unfolding label_lies
  label_inside = leb-true _ _ (both_left (leb ((part_in labels k).start + (part_in labels k).long) (length s)) (is_label (part_of s (part_in labels k))) label_is_there)

  pub label_holds : is_label (part_of s (part_in labels k)) ≡ true
  unfolding label_lies
  label_holds = both_right (leb ((part_in labels k).start + (part_in labels k).long) (length s)) (is_label (part_of s (part_in labels k))) label_is_there

  pub label_long : length (part_of s (part_in labels k)) ≡ (part_in labels k).long
  label_long = part_long s (part_in labels k) label_inside

  pub label_short : (part_in labels k).long ≤ longest_label
  unfolding is_label
  label_short = rw (← label_long) (at_most 1 longest_label _ (both_left (within 1 longest_label (length (part_of s (part_in labels k)))) _ label_holds))

module _ (h : Sheet) (s labels : List ℕ) (e : check_sheet h s labels ≡ accepted) where
  both_checked : (needed (legal h) 10 ≡ accepted) × (first_of h.count (label_at s labels) ≡ accepted)
  unfolding check_sheet
  both_checked = both_accepted (needed (legal h) 10) (first_of h.count (label_at s labels)) e

  pub checked_legal : legal h ≡ true
  checked_legal = needed_holds (legal h) 10 both_checked.0

  checked_labels : first_of h.count (label_at s labels) ≡ accepted
  checked_labels = both_checked.1

  pub checked_at : (k : ℕ) → k < h.count → label_at s labels k ≡ accepted
  checked_at k b = first_at h.count (label_at s labels) checked_labels k b
