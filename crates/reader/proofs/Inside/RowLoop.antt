-- The loop over the rows: what its lists have, a row more, and its ends. Assumes nothing.
use Rattle.basis.specs.Prelude.{ℕ, zero, suc, ◌+◌, ◌-◌, ◌≤◌, ◌<◌, ◌≡◌, refl, sym, ap, ◌∙◌, List, ◌∷◌, arith, le_antisymm, length, set, length-set}
use Rattle.reader.proofs.Names.{upto, ok, refuse, map_step, pair_stored, ok_same, after_ok, map_step_ok, map_step_no, map_step_after, length_upto, upto_over, list_cell, sheet_long, Row, row_stored, Entry, entry_row, entry, entries_by, entries, labels_long, up_to, longest_label, part_after, nothing, row_from, row_after, label_from, label_after, put_row, put_part, rows_in, parts_in, Part}

-- what follows the first i rows is read as if it began there
split : (m i k : ℕ) (s : List ℕ) (at : ℕ) (es : List Entry) (next : ℕ) → entries m i s at ≡ ok es next → map_step nothing (entries m (i + k) s at) ≡ map_step nothing (entries m k s next)
unfolding entries_by
split m zero k s at es next e = let z : 0 + k ≡ k = omega arith in rw (z, (ok_same e).1)
split m (suc i) k s at es next e =
    after_ok (entry m s at) _ e λ x q e₁ e₂.
    after_ok (entries m i s q) _ e₂ λ gs l e₃ e₄.
    let z : suc i + k ≡ suc (i + k) = omega arith in
    rw z (simp e₁ (map_step_after nothing (λ (zs : List Entry). x ∷ zs) (entries m (i + k) s q)) ∙ split m i k s q gs l e₃ ∙ rw (ok_same e₄).1)

-- a list after its first two numbers were stored
abbrev begun_list : ℕ → ℕ → List ℕ → List ℕ
begun_list m n l = set (set l 0 m) 1 n

begun_is : (m n : ℕ) (s : List ℕ) (at : ℕ) (l : List ℕ) → begun_list m n l ≡ rows_in m n s at 0 l
unfolding rows_in upto list_cell
begun_is m n s at l = refl

rows_over : (m n : ℕ) (s : List ℕ) (at i : ℕ) (l : List ℕ) → sheet_long i ≤ length l → rows_in m n s at i (begun_list m n l) ≡ rows_in m n s at i l
unfolding rows_in
rows_over m n s at i l r = ap (λ (z : List ℕ). upto (sheet_long i) (list_cell m n (row_after m s at)) z) (begun_is m n s at l) ∙ upto_over (sheet_long i) (sheet_long 0) _ _ l 0 (omega arith) r

pub head_put : (m n : ℕ) (s : List ℕ) (at : ℕ) (l : List ℕ) → sheet_long n ≤ length l → begun_list m n l ≡ rows_in m n s at 0 (begun_list m n l)
head_put m n s at l r = begun_is m n s at l ∙ sym (rows_over m n s at 0 l (omega arith))

-- the loop over n rows, which has passed i of them
module _ (m n : ℕ) (s : List ℕ) (at i next : ℕ) (so_far : map_step nothing (entries m i s at) ≡ ok tt next) where
  left : (k j : ℕ) → i + k ≡ j → map_step nothing (entries m j s at) ≡ map_step nothing (entries m k s next)
  left k j e = let (es, q, _) = map_step_ok nothing (entries m i s at) so_far in ap (λ (z : ℕ). map_step nothing (entries m z s at)) (sym e) ∙ split m i k s at es next q

  -- a row is refused
  pub row_refused : i < n → (k p : ℕ) → refuse k p ≡ map_step entry_row (entry m s next) → refuse k p ≡ map_step nothing (entries m n s at)
  unfolding entries_by map_step
  row_refused h k p q = sym (left (suc (n - (i + 1))) n (omega arith) ∙ simp (map_step_no entry_row (entry m s next) (sym q)))

  module _ (r : Row) (e : ℕ) (q : ok r e ≡ map_step entry_row (entry m s next)) where
    -- a row more is passed
    pub one_passed : map_step nothing (entries m (i + 1) s at) ≡ ok tt e
    unfolding entries_by map_step
    one_passed = left 1 (i + 1) refl ∙ simp (map_step_ok entry_row (entry m s next) (sym q)).1

    -- and stands in the list
    pub row_put : (l l₀ : List ℕ) → l ≡ rows_in m n s at i l₀ → (l' : List ℕ) → l' ≡ put_row l i r → l' ≡ rows_in m n s at (i + 1) l₀
    unfolding rows_in put_row row_after row_from
    row_put l l₀ el l' e' =
        let (es, q₀, _) = map_step_ok nothing (entries m i s at) so_far in
        let (en, q₁, er) = map_step_ok entry_row (entry m s next) (sym q) in
        e' ∙ row_stored m n (row_after m s at) i l l₀ el r (sym (simp (q₀, q₁) er))

    -- and where its label lies
    pub part_put : (p : Part) → p ≡ part_after (up_to longest_label 6 6 s next) → (b b₀ : List ℕ) → b ≡ parts_in m s at i b₀ → (b' : List ℕ) → b' ≡ put_part b i p → b' ≡ parts_in m s at (i + 1) b₀
    unfolding parts_in put_part label_after label_from
    part_put p lies b b₀ eb b' e' =
        let (es, q₀, _) = map_step_ok nothing (entries m i s at) so_far in
        let this : p ≡ label_after m s at i = lies ∙ sym (simp q₀) in
        e' ∙ pair_stored (λ k. (label_after m s at k).start) (λ k. (label_after m s at k).long) i b b₀ eb p.start p.long (ap (λ (z : Part). z.start) this) (ap (λ (z : Part). z.long) this)

  -- the last row is passed
  module _ (h : i ≤ n) (g : n ≤ i) where
    pub all_passed : ok tt next ≡ map_step nothing (entries m n s at)
    all_passed = sym (ap (λ (j : ℕ). map_step nothing (entries m j s at)) (le_antisymm g h) ∙ so_far)

    pub rows_put : (l l₀ : List ℕ) → sheet_long n ≤ length l₀ → l ≡ rows_in m n s at i (begun_list m n l₀) → l ≡ rows_in m n s at n l₀
    rows_put l l₀ r e = e ∙ ap (λ (j : ℕ). rows_in m n s at j (begun_list m n l₀)) (le_antisymm h g) ∙ rows_over m n s at n l₀ r

    pub parts_put : (b b₀ : List ℕ) → b ≡ parts_in m s at i b₀ → b ≡ parts_in m s at n b₀
    parts_put b b₀ e = e ∙ ap (λ (j : ℕ). parts_in m s at j b₀) (le_antisymm h g)

-- the lists are as long as they were
pub list_long : (m n : ℕ) (s : List ℕ) (at i : ℕ) (l l₀ : List ℕ) → l ≡ rows_in m n s at i (begun_list m n l₀) → length l ≡ length l₀
unfolding rows_in
list_long m n s at i l l₀ e = ap length e ∙ length_upto (sheet_long i) _ (begun_list m n l₀) ∙ simp length-set refl

pub parts_long : (m : ℕ) (s : List ℕ) (at i : ℕ) (b b₀ : List ℕ) → b ≡ parts_in m s at i b₀ → length b ≡ length b₀
unfolding parts_in
parts_long m s at i b b₀ e = ap length e ∙ length_upto (labels_long i) _ b₀

-- there is room for a row more
pub row_room : (m n : ℕ) (s : List ℕ) (at i : ℕ) (l l₀ : List ℕ) → l ≡ rows_in m n s at i (begun_list m n l₀) → i < n → sheet_long n ≤ length l₀ → sheet_long (i + 1) ≤ length l
row_room m n s at i l l₀ e h r = omega (arith, list_long m n s at i l l₀ e)

pub part_room : (m n : ℕ) (s : List ℕ) (at i : ℕ) (b b₀ : List ℕ) → b ≡ parts_in m s at i b₀ → i < n → labels_long n ≤ length b₀ → labels_long (i + 1) ≤ length b
part_room m n s at i b b₀ e h r = omega (arith, parts_long m s at i b b₀ e)
