-- Every refusal of the reader is one of the table's: of the bytes at its place in them, 10 and 15 at 0; and every one of the writer. Assumes nothing.
use Rattle.basis.specs.Prelude.{ℕ, zero, suc, ◌+◌, ◌%◌, ◌<◌, ◌≡◌, refl, sym, ap₂, ◌∙◌, ◌⊎◌, inl, inr, ⊎_elim, Bool, true, false, List, length, arith, ltb, leb, eqb, get_or, mod-lt, zero-lt-suc}
use Rattle.scenario.proofs.Names.{put_refused, most_groups, pick, Step, ok, refuse, after, refuse_at, give, begins, mark_bytes, Outcome, accepted, refused, never_ok, lt_or_le, number, up_to, up_to_by, groups, taken, Sheet, legal, Held, no_releases, no_slots, slot_before, row, releases, slot, slots, scenario, legal_is, file_of, first_of, budget_at, over_budget, over_at, check_whole, check_list, read_scenario, write_scenario, nothing_by, filled_by, written_by}
use Rattle.basis.specs.Refusals.{or_else}
use Rattle.basis.proofs.Inside.Steps.{refuse_same, after_no}
use Rattle.numbers.proofs.Inside.Groups.{ends, low, last, more, over, one_less}
use Rattle.scenario.specs.Listed.{ReadRefusal, sheet_not_legal, no_mark, cut_off, bad_number, missing_row, out_of_order, bad_count, no_room, WriteRefusal, unfit_sheet, uneven_list, over_the_budget, short_buffer}

module _ (s : List ℕ) where
  -- groups are refused by 2 at the end, or by 3 at the number's first byte
  groups_no : (g first least at k p : ℕ) → groups g first least s at ≡ refuse k p → ((k ≡ 2) × (p ≡ length s)) ⊎ ((k ≡ 3) × (p ≡ first))
  groups_no zero first least at k p e = let (a, b) = refuse_same {A = ℕ} (sym e ∙ over 0 first least s at (omega arith)) in inr (a, b)
  groups_no (suc g) first least at k p e =
      ⊎_elim (λ h. ⊎_elim (λ b. ⊎_elim (λ l. let (x, y) = refuse_same {A = ℕ} (sym e ∙ low (suc g) first least s at (zero-lt-suc g) h b l) in inr (x, y))
      (λ l. absurd (never_ok e (last (suc g) first least s at (zero-lt-suc g) h b l))) (lt_or_le (get_or s at 0) least))
      (λ b. after_no (groups g first 1 s (at + 1)) _ (sym (simp one_less at (more (suc g) first least s at (zero-lt-suc g) h b)) ∙ e) (λ q. groups_no g first 1 (at + 1) k p q) (λ v n q f. absurd (never_ok f refl)))
      (lt_or_le (get_or s at 0) 128))
      (λ h. let (x, y) = refuse_same {A = ℕ} (sym e ∙ ends (suc g) first least s at (zero-lt-suc g) h) in inl (x, y)) (lt_or_le at (length s))

  -- a number is refused so, and one that is accepted begins in the bytes
  number_no : (at k p : ℕ) → number s at ≡ refuse k p → ReadRefusal s k p
  number_no at k p e =
      ⊎_elim (λ h. ⊎_elim (λ (a, b). cut_off a b) (λ (a, b). bad_number a (omega arith)) (groups_no most_groups at 0 at k p e))
      (λ h. let (x, y) = refuse_same {A = ℕ} (sym e ∙ ends most_groups at 0 s at (omega arith) h) in cut_off x y) (lt_or_le at (length s))

  number_in : (at v n : ℕ) → number s at ≡ ok v n → at < length s
  number_in at v n e = let t = taken most_groups at 0 s at v n (omega arith) e in omega (arith, t.some_bytes, t.in_bytes)

  row_no : (n least at k p : ℕ) → row n least s at ≡ refuse k p → ReadRefusal s k p
  unfolding row
  row_no n least at k p e =
      after_no (number s at) _ e (number_no at k p) (λ r m q f. go (ltb r n) (ltb r least) r m (number_in at r m q) f)
    where
      go : (t u : Bool) (r m : ℕ) → at < length s → pick t (pick u (refuse_at 20 at) (give r)) (refuse_at 14 at) s m ≡ refuse k p → ReadRefusal s k p
      go true true r m b f = let (x, y) = refuse_same {A = ℕ} f in out_of_order (sym x) (omega arith)
      go true false r m b f = absurd (never_ok f refl)
      go false u r m b f = let (x, y) = refuse_same {A = ℕ} f in missing_row (sym x) (omega arith)

  count_no : (most at k p : ℕ) → up_to most 12 12 s at ≡ refuse k p → ReadRefusal s k p
  unfolding up_to_by
  count_no most at k p e = after_no (number s at) _ e (number_no at k p) (λ v m q f. go (eqb v 0) (leb v most) v m (number_in at v m q) f)
    where
      go : (t u : Bool) (v m : ℕ) → at < length s → pick t (refuse_at 12 at) (pick u (give v) (refuse_at 12 at)) s m ≡ refuse k p → ReadRefusal s k p
      go true u v m b f = let (x, y) = refuse_same {A = ℕ} f in bad_count (sym x) (omega arith)
      go false true v m b f = absurd (never_ok f refl)
      go false false v m b f = let (x, y) = refuse_same {A = ℕ} f in bad_count (sym x) (omega arith)

  module _ (h : Sheet) where
    releases_no : (j least : ℕ) (l : List ℕ) (at k p : ℕ) → releases h j least l s at ≡ refuse k p → ReadRefusal s k p
    unfolding releases
    releases_no zero least l at k p e = absurd (never_ok e refl)
    releases_no (suc j) least l at k p e =
        after_no (row h.count least s at) _ e (row_no h.count least at k p) λ r a q f.
        after_no (up_to (budget_at h r) 12 12 s a) _ f (count_no (budget_at h r) a k p) λ c b g i.
        releases_no j (r + 1) _ b k p i

    slot_no : (l : List ℕ) (at k p : ℕ) → slot h l s at ≡ refuse k p → ReadRefusal s k p
    unfolding slot
    slot_no l at k p e = after_no (number s at) _ e (number_no at k p) (λ j a q f. releases_no j 0 l a k p f)

    slots_no : (f at k p : ℕ) → slots h f s at ≡ refuse k p → ReadRefusal s k p
    unfolding slots
    slots_no zero at k p e = absurd (never_ok e refl)
    slots_no (suc f) at k p e = go (λ n. slots_no f n k p) (ltb at (length s)) e
      where
        go : ((n : ℕ) → slots h f s n ≡ refuse k p → ReadRefusal s k p) → (t : Bool) → pick t (after (slot h (no_releases h.count) s at) (λ l n. after (slots h f s n) (λ x m. ok (slot_before l x) m))) (ok no_slots at) ≡ refuse k p → ReadRefusal s k p
        go others true q =
            after_no (slot h (no_releases h.count) s at) _ q (slot_no (no_releases h.count) at k p) λ l n x y.
            after_no (slots h f s n) _ y (others n) (λ z m v w. absurd (never_ok w refl))
        go others false q = absurd (never_ok q refl)

    scenario_no : (k p : ℕ) → scenario h s 0 ≡ refuse k p → ReadRefusal s k p
    unfolding scenario
    scenario_no k p e = go (begins mark_bytes s) e
      where
        go : (t : Bool) → after (pick t (ok (tt {0}) 4) (refuse 1 0)) (λ u n. slots h (length s) s n) ≡ refuse k p → ReadRefusal s k p
        go true q = slots_no (length s) 4 k p q
        go false q = let (x, y) = refuse_same {A = Held} q in no_mark (sym x) (sym y)

-- every refusal of the reader
pub read_refusal_is_listed : (h : Sheet) (s l : List ℕ) (k p : ℕ) → (read_scenario h s l).outcome ≡ refused k p → ReadRefusal s k p
unfolding read_scenario
read_refusal_is_listed h s l k p e = legally (legal h) e
  where
    read : (x : Step Held) → scenario h s 0 ≡ x → (filled_by x l).outcome ≡ refused k p → ReadRefusal s k p
    read (ok x n) q f = let (a, b) = put_refused x.slots x.entries l k p f in no_room a b
    read (refuse j i) q f =
        let a : j ≡ k = cc in
        let b : i ≡ p = cc in
        scenario_no s h k p (q ∙ ap₂ (λ (x : ℕ) (y : ℕ). refuse x y) a b)

    legally : (t : Bool) → (pick t (filled_by (scenario h s 0) l) (nothing_by (refused 10 0) l)).outcome ≡ refused k p → ReadRefusal s k p
    legally true f = read (scenario h s 0) refl f
    legally false f =
        let a : k ≡ 10 = cc in
        let b : p ≡ 0 = cc in
        sheet_not_legal a b

-- ---- the writer

entry_no : (h : Sheet) (l : List ℕ) (i k p : ℕ) → 0 < h.count → over_at h l i ≡ refused k p → WriteRefusal h.count k p
unfolding over_at over_budget
entry_no h l i k p pos e = go (ltb (budget_at h (i % h.count)) (get_or l i 0)) e
  where
    go : (t : Bool) → pick t (refused 12 (i % h.count)) accepted ≡ refused k p → WriteRefusal h.count k p
    go true q =
        let a : 12 ≡ k = cc in
        let b : i % h.count ≡ p = cc in
        over_the_budget (sym a) (omega (arith, mod-lt i pos))
    go false q = let z : ◌≡◌ {A = ℕ} 0 1 = cc in absurd (omega arith)

first_no : (n : ℕ) (f : ℕ → Outcome) {R : Type 0} {k p : ℕ} → ((i : ℕ) → f i ≡ refused k p → R) → first_of n f ≡ refused k p → R
unfolding first_of
first_no zero f g e = let z : ◌≡◌ {A = ℕ} 0 1 = cc in absurd (omega arith)
first_no (suc n) f {R} {k} {p} g e = go (first_of n f) (first_no n f g) e
  where
    go : (o : Outcome) → (o ≡ refused k p → R) → or_else o (f n) ≡ refused k p → R
    go accepted first q = g n q
    go (refused a b) first q = first q

check_no : (h : Sheet) (l : List ℕ) (k p : ℕ) → check_list h l ≡ refused k p → WriteRefusal h.count k p
unfolding check_list check_whole
check_no h l k p e = legally (legal h) refl e
  where
    whole : 0 < h.count → (t : Bool) → pick t (first_of (length l) (over_at h l)) (refused 11 0) ≡ refused k p → WriteRefusal h.count k p
    whole pos true q = first_no (length l) (over_at h l) (λ i. entry_no h l i k p pos) q
    whole pos false q =
        let a : k ≡ 11 = cc in
        let b : p ≡ 0 = cc in
        uneven_list a b

    legally : (t : Bool) → legal h ≡ t → pick t (check_whole h l) (refused 10 0) ≡ refused k p → WriteRefusal h.count k p
    legally true fine q = whole (legal_is h fine).some_rows (eqb (length l % h.count) 0) q
    legally false fine q =
        let a : k ≡ 10 = cc in
        let b : p ≡ 0 = cc in
        unfit_sheet a b

-- every refusal of the writer
pub write_refusal_is_listed : (h : Sheet) (l out : List ℕ) (k p : ℕ) → (write_scenario h l out).outcome ≡ refused k p → WriteRefusal h.count k p
unfolding write_scenario
write_refusal_is_listed h l out k p e = go (check_list h l) refl e
  where
    go : (o : Outcome) → check_list h l ≡ o → (written_by o (file_of h l) out).outcome ≡ refused k p → WriteRefusal h.count k p
    go accepted q f = let (a, b) = put_refused (length (file_of h l)) (file_of h l) out k p f in short_buffer a b
    go (refused a b) q f = check_no h l k p (q ∙ f)
