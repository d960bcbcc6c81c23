-- What is read is what would be written: its very bytes. And it can be written: so a sheet's numbers and labels have one file. Assumes nothing.
use Rattle.basis.specs.Prelude.{ℕ, zero, suc, ◌+◌, ◌≤◌, ◌≡◌, sym, ap, ap₂, subst, ◌∙◌, true, List, ◌++◌, arith, length, take, drop}
use Rattle.writer.proofs.Names.{longest_label, most_processors, most_rows, most_separation, Each, Bytes, ok, after_ok, ok_same, enough, enough_ok, marked, marked_ok, bounded, Covers, covers_all, covers_as, covers_mark, covers_none, covers_part, covers_then, covers_up_to, spell, up_to, Entry, Held, Head, mark_bytes, entries, entry, head, label, sheet, entries_by, entry_by, head_by, label_by, is_label, GoodEntry, Good, label_bytes, entries_bytes, entry_bytes, head_bytes, row_bytes, sheet_bytes}
use Rattle.reader.proofs.Inside.Plain.{plain_ok}
use Rattle.reader.proofs.Inside.LabelPlaces.{rowed, whole}
use Rattle.reader.proofs.LegalSheets.{read_is_legal}
use Rattle.writer.proofs.Inside.Checks.{part_is_label}

module _ (s : List ℕ) where
  -- ---- what was read can be written

  label_good : (at : ℕ) (bs : List ℕ) (n : ℕ) → label s at ≡ ok bs n → is_label bs ≡ true
  unfolding label_by
  label_good at bs n e =
      after_ok (up_to longest_label 6 6 s at) _ e λ k st e₁ e₂.
      after_ok (enough k s st) _ e₂ λ u m e₃ e₄.
      let (fits, em) = enough_ok k s st u m e₃ in
      let r = plain_ok k s m bs n e₄ in
      let b = bounded longest_label 6 6 s at k st e₁ in
      ap is_label r.bytes ∙ part_is_label s (record { start = m; long = k }) b.positive b.not_over (omega arith) r.plainly

  entry_good : (m at : ℕ) (x : Entry) (n : ℕ) → entry m s at ≡ ok x n → GoodEntry m x
  entry_good m at x n e = let r = rowed m s at x n e in record { labelled = label_good at x.label r.from r.labelled; in_ranges = r.legal }

  entries_good : (m k at : ℕ) (es : List Entry) (n : ℕ) → entries m k s at ≡ ok es n → Each (GoodEntry m) es
  unfolding entries_by
  entries_good m zero at es n e = let (same, _) = ok_same e in subst (Each (GoodEntry m)) same tt
  entries_good m (suc k) at es n e =
      after_ok (entry m s at) _ e λ x a e₁ e₂.
      after_ok (entries m k s a) _ e₂ λ gs b e₃ e₄.
      let (same, _) = ok_same e₄ in
      subst (Each (GoodEntry m)) same (entry_good m at x a e₁, entries_good m k a gs b e₃)

  pub read_is_good : (h : Held) (n : ℕ) → sheet s 0 ≡ ok h n → Good h
  read_is_good h n e =
      let w = whole s h n e in
      let l = read_is_legal s h n e in
      record {
        some_processors = l.some_processors;
        at_most_processors = l.at_most_processors;
        some_rows = l.some_rows;
        at_most_rows = l.at_most_rows;
        rows = subst (λ (m : ℕ). Each (GoodEntry m) h.entries) w.wide (entries_good w.top.processors w.top.count w.from h.entries w.to w.all);
      }

  -- ---- and is written as its very bytes

  module _ (bytes : Bytes s) where
    label_covers : (at : ℕ) (bs : List ℕ) (n : ℕ) → label s at ≡ ok bs n → Covers s at n (label_bytes bs)
    unfolding label_by
    label_covers at bs n e =
        after_ok (up_to longest_label 6 6 s at) _ e λ k st e₁ e₂.
        after_ok (enough k s st) _ e₂ λ u m e₃ e₄.
        let (fits, em) = enough_ok k s st u m e₃ in
        let r = plain_ok k s m bs n e₄ in
        let first : Covers s at st (spell (length bs)) =
        subst (λ (j : ℕ). Covers s at st (spell j)) (sym r.long) (covers_up_to s bytes longest_label 6 6 at k st e₁) in
        let en : st + k ≡ n = omega (arith, r.next) in
        let eb : take k (drop st s) ≡ bs = ap (λ (j : ℕ). take k (drop j s)) em ∙ sym r.bytes in
        covers_then s first (covers_as s en eb (covers_part s st k fits))

    entry_covers : (m at : ℕ) (x : Entry) (n : ℕ) → entry m s at ≡ ok x n → Covers s at n (entry_bytes x)
    unfolding entry_by entry_bytes row_bytes
    entry_covers m at x n e =
        after_ok (label s at) _ e λ l a e₁ e₂.
        after_ok (up_to m 7 8 s a) _ e₂ λ t b e₃ e₄.
        after_ok (up_to most_separation 7 8 s b) _ e₄ λ T c e₅ e₆.
        after_ok (up_to T 7 8 s c) _ e₆ λ D d e₇ e₈.
        after_ok (up_to D 7 8 s d) _ e₈ λ C f e₉ e₀.
        let (same, ef) = ok_same e₀ in
        let all : Covers s at f (entry_bytes (record { label = l; row = record { threads = t; separation = T; deadline = D; budget = C } })) =
        covers_then s (label_covers at l a e₁)
        (covers_then s (covers_up_to s bytes m 7 8 a t b e₃)
        (covers_then s (covers_up_to s bytes most_separation 7 8 b T c e₅)
        (covers_then s (covers_up_to s bytes T 7 8 c D d e₇) (covers_up_to s bytes D 7 8 d C f e₉)))) in
        covers_as s ef (ap entry_bytes same) all

    entries_covers : (m k at : ℕ) (es : List Entry) (n : ℕ) → at ≤ length s → entries m k s at ≡ ok es n → Covers s at n (entries_bytes es)
    unfolding entries_by entries_bytes
    entries_covers m zero at es n h e = let (same, en) = ok_same e in covers_as s en (ap entries_bytes same) (covers_none s at h)
    entries_covers m (suc k) at es n h e =
        after_ok (entry m s at) _ e λ x a e₁ e₂.
        after_ok (entries m k s a) _ e₂ λ gs b e₃ e₄.
        let (same, en) = ok_same e₄ in
        let first = entry_covers m at x a e₁ in
        covers_as s en (ap entries_bytes same) (covers_then s first (entries_covers m k a gs b first.inside e₃))

    head_covers : (h : Head) (n : ℕ) → head s 0 ≡ ok h n → Covers s 0 n (head_bytes h.processors h.count)
    unfolding head_by head_bytes
    head_covers h n e =
        after_ok (marked mark_bytes s 0) _ e λ u z m₁ m₂.
        let (is, ez) = marked_ok mark_bytes s 0 u z m₁ in
        after_ok (up_to most_processors 4 4 s z) _ m₂ λ m a e₁ e₂.
        after_ok (up_to most_rows 5 5 s a) _ e₂ λ k b e₃ e₄.
        let (same, eb) = ok_same e₄ in
        let all : Covers s 0 b (head_bytes m k) =
        covers_then s (subst (λ (j : ℕ). Covers s 0 j mark_bytes) ez (covers_mark mark_bytes s is))
        (covers_then s (covers_up_to s bytes most_processors 4 4 z m a e₁) (covers_up_to s bytes most_rows 5 5 a k b e₃)) in
        covers_as s eb (ap (λ (x : Head). head_bytes x.processors x.count) same) all

    pub read_is_written : (h : Held) (n : ℕ) → sheet s 0 ≡ ok h n → s ≡ sheet_bytes h
    unfolding sheet_bytes
    read_is_written h n e =
        let w = whole s h n e in
        let first = head_covers w.top w.from w.before in
        let rest = entries_covers w.top.processors w.top.count w.from h.entries w.to first.inside w.all in
        covers_all s (covers_then s first rest) w.ended
        ∙ ap₂ (λ (x : ℕ) (y : ℕ). head_bytes x y ++ entries_bytes h.entries) w.wide w.many

-- two accepted files with the same numbers and labels are equal
pub one_file_each : (s t : List ℕ) → Bytes s → Bytes t → (h : Held) (n m : ℕ) → sheet s 0 ≡ ok h n → sheet t 0 ≡ ok h m → s ≡ t
one_file_each s t bs bt h n m e f = read_is_written s bs h n e ∙ sym (read_is_written t bt h m f)
