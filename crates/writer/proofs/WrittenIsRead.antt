-- What is written is read back: the same processors, the same rows and the same labels. Assumes nothing.
use Rattle.basis.specs.Prelude.{ℕ, suc, ◌+◌, ◌≤◌, ◌<◌, ◌≡◌, refl, sym, ap, ◌∙◌, true, List, [], ◌∷◌, ◌++◌, append_assoc, append-nil, arith, length, length-append, get_or, get_or-append_seam, lt-ltb, le-ltb, le-leb, zero-lt-suc}
use Rattle.writer.proofs.Names.{all_at, at_least, at_most, both_left, both_right, within, all_of, longest_label, most_processors, most_rows, most_separation, Each, Reads, at_place, reads_end, reads_give, reads_then, reads_up_to, ok, begins, spell, up_to, Entry, Held, is_plain, mark_bytes, entries, entry, label, sheet, body_by, entries_by, entry_by, head_by, label_by, plain, sheet_by, is_label, plain_at, GoodEntry, Good, label_bytes, entries_bytes, entry_bytes, head_bytes, row_bytes, sheet_bytes}

-- the bytes of a label
reads_plain : (l : List ℕ) → ((j : ℕ) → j < length l → plain_at l j ≡ true) → Reads (plain (length l)) l l
unfolding plain
reads_plain [] all = reads_give []
reads_plain (b ∷ l) all = record {
  back = λ p q.
      let s : List ℕ = p ++ (b ∷ (l ++ q)) in
      let there : length p < length s = omega (arith, length-append p (b ∷ (l ++ q))) in
      let here : get_or s (length p) 0 ≡ b = get_or-append_seam p b (l ++ q) 0 in
      let fine : is_plain b ≡ true = all 0 (zero-lt-suc (length l)) in
      let ih : plain (length l) s (length p + 1) ≡ ok l (length p + 1 + length l) =
      at_place (reads_plain l (λ j h. all (suc j) (omega arith))) s (p ++ (b ∷ [])) q (length p + 1) (sym (append_assoc p (b ∷ []) (l ++ q))) (sym (length-append p (b ∷ []))) in
      simp (lt-ltb _ _ there, here, fine, ih) (ap (ok (b ∷ l)) (omega arith));
}

-- a label
reads_label : (l : List ℕ) → is_label l ≡ true → Reads label (label_bytes l) l
unfolding label_by is_label
reads_label l e = record {
  back = λ p q.
      let range : within 1 longest_label (length l) ≡ true = both_left (within 1 longest_label (length l)) (all_of (length l) (plain_at l)) e in
      let some : 1 ≤ length l = at_least 1 longest_label (length l) range in
      let short : length l ≤ longest_label = at_most 1 longest_label (length l) range in
      let all : all_of (length l) (plain_at l) ≡ true = both_right (within 1 longest_label (length l)) (all_of (length l) (plain_at l)) e in
      let s : List ℕ = p ++ ((spell (length l) ++ l) ++ q) in
      let cut : s ≡ p ++ (spell (length l) ++ (l ++ q)) = ap (λ (x : List ℕ). p ++ x) (append_assoc (spell (length l)) l q) in
      let st : ℕ = length p + length (spell (length l)) in
      let e₁ : up_to longest_label 6 6 s (length p) ≡ ok (length l) st =
      at_place (reads_up_to longest_label 6 6 (length l) (omega arith) some short) s p (l ++ q) (length p) cut refl in
      let e₂ : plain (length l) s st ≡ ok l (st + length l) =
      at_place (reads_plain l (all_at (length l) (plain_at l) all)) s (p ++ spell (length l)) q st (cut ∙ sym (append_assoc p (spell (length l)) (l ++ q))) (sym (length-append p (spell (length l)))) in
      let fits : st + length l ≤ length s =
      omega (arith, length-append p ((spell (length l) ++ l) ++ q), length-append (spell (length l) ++ l) q, length-append (spell (length l)) l) in
      simp (e₁, le-leb _ _ fits, e₂) (ap (ok l) (omega (arith, length-append (spell (length l)) l)));
}

-- a row
reads_entry : (m : ℕ) (e : Entry) → m ≤ most_processors → GoodEntry m e → Reads (entry m) (entry_bytes e) e
unfolding entry_by entry_bytes row_bytes
reads_entry m e few g =
    let r = g.in_ranges in
    let row = e.row in
    reads_then label _ (reads_label e.label g.labelled)
    (reads_then (up_to m 7 8) _ (reads_up_to m 7 8 row.threads (omega (arith, r.at_most_threads)) r.some_threads r.at_most_threads)
    (reads_then (up_to most_separation 7 8) _ (reads_up_to most_separation 7 8 row.separation (omega (arith, r.at_most_separation)) r.some_separation r.at_most_separation)
    (reads_then (up_to row.separation 7 8) _ (reads_up_to row.separation 7 8 row.deadline (omega (arith, r.at_most_deadline, r.at_most_separation)) r.some_deadline r.at_most_deadline)
    (reads_end (up_to row.deadline 7 8) _ (reads_up_to row.deadline 7 8 row.budget (omega (arith, r.at_most_budget, r.at_most_deadline, r.at_most_separation)) r.some_budget r.at_most_budget)))))

-- row after row
reads_entries : (m : ℕ) (es : List Entry) → m ≤ most_processors → Each (GoodEntry m) es → Reads (entries m (length es)) (entries_bytes es) es
unfolding entries_by entries_bytes
reads_entries m [] few all = reads_give []
reads_entries m (e ∷ es) few (g, gs) =
    reads_then (entry m) _ (reads_entry m e few g) (reads_end (entries m (length es)) (λ (x : List Entry). e ∷ x) (reads_entries m es few gs))

-- a whole sheet
pub written_is_read : (h : Held) → Good h → sheet (sheet_bytes h) 0 ≡ ok h (length (sheet_bytes h))
unfolding sheet_by head_by body_by sheet_bytes head_bytes begins
written_is_read h g =
    let m : ℕ = h.processors in
    let es : List Entry = h.entries in
    let n : ℕ = length es in
    let s : List ℕ = (mark_bytes ++ (spell m ++ spell n)) ++ entries_bytes es in
    let a : ℕ = 4 + length (spell m) in
    let b : ℕ = a + length (spell n) in
    let e₁ : up_to most_processors 4 4 s 4 ≡ ok m a =
    at_place (reads_up_to most_processors 4 4 m (omega (arith, g.at_most_processors)) g.some_processors g.at_most_processors) s mark_bytes (spell n ++ entries_bytes es) 4
    (ap (λ (x : List ℕ). mark_bytes ++ x) (append_assoc (spell m) (spell n) (entries_bytes es))) refl in
    let e₂ : up_to most_rows 5 5 s a ≡ ok n b =
    at_place (reads_up_to most_rows 5 5 n (omega (arith, g.at_most_rows)) g.some_rows g.at_most_rows) s (mark_bytes ++ spell m) (entries_bytes es) a
    (ap (λ (x : List ℕ). mark_bytes ++ x) (append_assoc (spell m) (spell n) (entries_bytes es))) (sym (length-append mark_bytes (spell m))) in
    let e₃ : entries m n s b ≡ ok es (b + length (entries_bytes es)) =
    at_place (reads_entries m es g.at_most_processors g.rows) s (mark_bytes ++ (spell m ++ spell n)) [] b
    (ap (λ (x : List ℕ). (mark_bytes ++ (spell m ++ spell n)) ++ x) (sym (append-nil (entries_bytes es))))
    (omega (arith, length-append mark_bytes (spell m ++ spell n), length-append (spell m) (spell n))) in
    let whole : b + length (entries_bytes es) ≡ length s =
    omega (arith, length-append (mark_bytes ++ (spell m ++ spell n)) (entries_bytes es), length-append mark_bytes (spell m ++ spell n), length-append (spell m) (spell n)) in
    simp (e₁, e₂, e₃, le-ltb (b + length (entries_bytes es)) (length s) (omega arith)) (ap (ok h) whole)
