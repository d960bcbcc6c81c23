-- A label of an accepted sheet: where its bytes are, and what the function that looks for it has shown. Assumes nothing.
use Rattle.basis.specs.Prelude.{rules, ℕ, zero, suc, ◌+◌, ◌≤◌, ◌<◌, ◌≡◌, refl, sym, ap, ap₂, subst, ◌∙◌, true, List, [], ◌∷◌, map, arith, not-suc-le-zero, le_of_suc-le-suc, length, get_or, take, drop, get_or-map}
use Rattle.reader.proofs.Names.{longest_label, most_separation, ok, bounded, LegalRow, enough, end, after_ok, ok_same, enough_ok, end_ok, end_stays, up_to, no_row, Entry, Held, entry_row, entry_label, is_plain, label_by, label, entry_by, entry, entries_by, entries, body_by, Head, head, sheet_by, sheet, label_head, row_from, row_after}
use Rattle.reader.proofs.Inside.Plain.{plain_ok}

-- a label's length was read first, and its bytes are a part of the sheet's
pub record Lies (s : List ℕ) (at : ℕ) (bs : List ℕ) : Type 0 where
  pub start : ℕ
  pub head : up_to longest_label 6 6 s at ≡ ok (length bs) start
  pub plainly : (j : ℕ) → j < length bs → is_plain (get_or s (start + j) 0) ≡ true
  pub inside : start + length bs ≤ length s
  pub bytes : bs ≡ take (length bs) (drop start s)

label_lies_lem : (s : List ℕ) (at : ℕ) (bs : List ℕ) (n : ℕ) → label s at ≡ ok bs n → Lies s at bs
unfolding label_by
label_lies_lem s at bs n e =
    after_ok (up_to longest_label 6 6 s at) _ e λ k st e₁ e₂.
    after_ok (enough k s st) _ e₂ λ u m e₃ e₄.
    let (fits, em) = enough_ok k s st u m e₃ in
    let r = plain_ok k s m bs n e₄ in
    record {
      start = st;
      head = e₁ ∙ ap (λ (j : ℕ). ok j st) (sym r.long);
      plainly = λ j h. rw em (r.plainly j (omega (arith, r.long)));
      inside = omega (arith, r.long);
      bytes = r.bytes ∙ ap₂ (λ (i : ℕ) (j : ℕ). take i (drop j s)) (sym r.long) (sym em);
    }

-- what an accepted row says: its label, its numbers, and where it ends
pub record Rowed (m : ℕ) (s : List ℕ) (at : ℕ) (x : Entry) (n : ℕ) : Type 0 where
  pub from : ℕ
  pub labelled : label s at ≡ ok (entry_label x) from
  pub legal : LegalRow m (entry_row x)
  pub long : from + 4 ≤ n
  pub inside : n ≤ length s

pub rowed : (m : ℕ) (s : List ℕ) (at : ℕ) (x : Entry) (n : ℕ) → entry m s at ≡ ok x n → Rowed m s at x n
unfolding entry_by
rowed m s at x n e =
    after_ok (label s at) _ e λ l a e₁ e₂.
    after_ok (up_to m 7 8 s a) _ e₂ λ t b e₃ e₄.
    after_ok (up_to most_separation 7 8 s b) _ e₄ λ T c e₅ e₆.
    after_ok (up_to T 7 8 s c) _ e₆ λ D d e₇ e₈.
    after_ok (up_to D 7 8 s d) _ e₈ λ C f e₉ e₀.
    let (same, en) = ok_same e₀ in
    let tb = bounded m 7 8 s a t b e₃ in
    let Tb = bounded most_separation 7 8 s b T c e₅ in
    let Db = bounded T 7 8 s c D d e₇ in
    let Cb = bounded D 7 8 s d C f e₉ in
    subst (λ (y : Entry). Rowed m s at y n) same (record { from = a; labelled = e₁; legal = search rules; long = omega arith; inside = omega arith })

-- an entry that is not there
abbrev no_entry : Entry
no_entry = record { label = []; row = no_row }

-- row i of n rows, where all are accepted
entries_at : (m n i : ℕ) (s : List ℕ) (at : ℕ) (es : List Entry) (f : ℕ) → entries m n s at ≡ ok es f → i < n
    → (fs : List Entry) × (p : ℕ) × (x : Entry) × (q : ℕ) × (entries m i s at ≡ ok fs p) × (entry m s p ≡ ok x q) × (get_or es i no_entry ≡ x)
unfolding entries_by
entries_at m zero i s at es f e h = absurd (not-suc-le-zero h)
entries_at m (suc n) zero s at es f e h =
    after_ok (entry m s at) _ e λ x q e₁ e₂.
    after_ok (entries m n s q) _ e₂ λ gs l e₃ e₄.
    ([], at, x, q, refl, e₁, ap (λ (y : List Entry). get_or y 0 no_entry) (sym (ok_same e₄).0))
entries_at m (suc n) (suc i) s at es f e h =
    after_ok (entry m s at) _ e λ x q e₁ e₂.
    after_ok (entries m n s q) _ e₂ λ gs l e₃ e₄.
    let (fs, p, y, r, f₁, f₂, f₃) = entries_at m n i s q gs l e₃ (le_of_suc-le-suc h) in
    (x ∷ fs, p, y, r, simp (e₁, f₁), f₂, ap (λ (z : List Entry). get_or z (suc i) no_entry) (sym (ok_same e₄).0) ∙ f₃)

pub entries_length : (m n : ℕ) (s : List ℕ) (at : ℕ) (es : List Entry) (f : ℕ) → entries m n s at ≡ ok es f → length es ≡ n
unfolding entries_by
entries_length m zero s at es f e = ap length (sym (ok_same e).0)
entries_length m (suc n) s at es f e =
    after_ok (entry m s at) _ e λ x q e₁ e₂.
    after_ok (entries m n s q) _ e₂ λ gs l e₃ e₄.
    ap length (sym (ok_same e₄).0) ∙ ap suc (entries_length m n s q gs l e₃)

-- a sheet that was read, by its parts
pub record Whole (s : List ℕ) (h : Held) (n : ℕ) : Type 0 where
  pub top : Head
  pub from : ℕ
  pub to : ℕ
  pub before : head s 0 ≡ ok top from
  pub all : entries top.processors top.count s from ≡ ok h.entries to
  pub ended : length s ≤ to
  pub last : to ≡ n
  pub wide : top.processors ≡ h.processors
  pub many : top.count ≡ length h.entries

pub whole : (s : List ℕ) (h : Held) (n : ℕ) → sheet s 0 ≡ ok h n → Whole s h n
unfolding sheet_by body_by
whole s h n e =
    after_ok (head s 0) _ e λ top from e₁ e₂.
    after_ok (entries top.processors top.count s from) _ e₂ λ es to e₃ e₄.
    after_ok (end s to) _ e₄ λ u z e₅ e₆.
    let (same, en) = ok_same e₆ in
    let many = entries_length _ _ _ _ _ _ e₃ in
    let stays = end_stays s to u z e₅ in
    subst (λ (x : Held). Whole s x n) same
    (record { top = top; from = from; to = to; before = e₁; all = e₃; ended = end_ok s to u z e₅; last = omega arith; wide = refl; many = sym many })

-- a label that is found in an accepted sheet
pub record Found (s : List ℕ) (i : ℕ) (h : Held) : Type 0 where
  pub at : ℕ
  pub label : List ℕ
  pub is : get_or (map entry_label h.entries) i [] ≡ label
  pub lies : Lies s at label
  pub head : label_head i s 0 ≡ ok (length label) lies.start

pub found : (s : List ℕ) (i : ℕ) (h : Held) (n : ℕ) → sheet s 0 ≡ ok h n → i < length h.entries → Found s i h
unfolding label_head
found s i h n e l =
    let w = whole s h n e in
    let (fs, p, x, q, f₁, f₂, f₃) = entries_at w.top.processors w.top.count i s w.from h.entries w.to w.all (omega (arith, w.many)) in
    let y = rowed w.top.processors s p x q f₂ in
    let r = label_lies_lem s p (entry_label x) y.from y.labelled in
    record { at = p; label = entry_label x; is = get_or-map entry_label h.entries i no_entry ∙ ap entry_label f₃; lies = r; head = simp (w.before, f₁) r.head }

-- row i of n rows from a place on is the one that was read, and legal
module _ (m n i : ℕ) (s : List ℕ) (at : ℕ) (es : List Entry) (f : ℕ) (e : entries m n s at ≡ ok es f) (l : i < n) where
  pub row_was_read : row_after m s at i ≡ get_or (map entry_row es) i no_row
  unfolding row_after row_from
  row_was_read =
      let (fs, p, x, q, f₁, f₂, f₃) = entries_at m n i s at es f e l in
      simp (f₁, f₂) (sym (get_or-map entry_row es i no_entry ∙ ap entry_row f₃))

  pub entries_legal : LegalRow m (get_or (map entry_row es) i no_row)
  entries_legal =
      let (fs, p, x, q, f₁, f₂, f₃) = entries_at m n i s at es f e l in
      rw (get_or-map entry_row es i no_entry, f₃) (rowed m s p x q f₂).legal
