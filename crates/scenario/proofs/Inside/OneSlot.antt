-- One slot of a scenario: it goes on, keeps the length of its entries, leaves rows past n alone and is refused alike into all entries; and the slots after it. Assumes nothing.
use lib.Seq.{set-append_left}
use Rattle.std.proofs.lemmas.List.{take-replicate}
use Rattle.basis.specs.Prelude.{ℕ, zero, suc, ◌+◌, ◌/◌, ◌≤◌, ◌<◌, ◌≡◌, refl, sym, ap, ◌∙◌, Bool, true, take-set-lt, false, List, ⊎_elim, ◌++◌, arith, length, set, length-set, take, ltb, lt-ltb, ltb-true, le-ltb, ltb-false}
use Rattle.scenario.proofs.Names.{after_ok, map_step_no, map_step_ok, not_stopped, ok_same, passed, lt_or_le, most_groups, most_rows, Step, after, give, ok, refuse, begins, map_step, pick, bounded, taken, spelt_more_lem, spelt_one, number, up_to, spelt, slot_handed, read_slot, Held, budget_at, mark_bytes, no_releases, no_slots, slot_before, releases, row, scenario, slot, slots, legal, Sheet}

-- a number takes no more bytes than groups
pub spelt_few : (g v : ℕ) → length (spelt g v) ≤ g
unfolding spelt
spelt_few zero v = omega arith
spelt_few (suc g) v = ⊎_elim (λ b. omega (arith, ap length (spelt_one g v b))) (λ b. omega (arith, ap length (spelt_more_lem g v b), spelt_few g (v / 128))) (lt_or_le v 128)

-- a row that is read is one of the sheet's, at or above the least, and takes a byte or more
pub record RowIs (n least : ℕ) (s : List ℕ) (at r m : ℕ) : Type 0 where
  pub read : number s at ≡ ok r m
  pub few : r < n
  pub above : least ≤ r
  pub goes : at < m
  pub near : m ≤ at + most_groups

pub row_is : (n least : ℕ) (s : List ℕ) (at r m : ℕ) → row n least s at ≡ ok r m → RowIs n least s at r m
unfolding row
row_is n least s at r m e =
    after_ok (number s at) _ e λ v z e₁ e₂.
    let (t, e₃) = passed _ 14 at s z (ltb v n) e₂ in
    let (u, e₄) = not_stopped (give v) 20 at s z (ltb v least) e₃ in
    let (ev, ez) = ok_same e₄ in
    let q = taken most_groups at 0 s at v z (omega arith) e₁ in
    record {
      read = e₁ ∙ e₄;
      few = omega (arith, ltb-true v n t);
      above = omega (arith, ltb-false v least u);
      goes = omega (arith, q.some_bytes);
      near = omega (arith, q.no_more, spelt_few most_groups v);
    }

releases_go : (h : Sheet) (k least : ℕ) (l s : List ℕ) (at : ℕ) (x : List ℕ) (n : ℕ) → releases h k least l s at ≡ ok x n → (at ≤ n) × (length x ≡ length l)
unfolding releases
releases_go h zero least l s at x n e = let (ex, en) = ok_same e in (omega arith, ap length (sym ex))
releases_go h (suc k) least l s at x n e =
    after_ok (row h.count least s at) _ e λ r a e₁ e₂.
    after_ok (up_to (budget_at h r) 12 12 s a) _ e₂ λ c b e₃ e₄.
    let (go, long) = releases_go h k (r + 1) (set l r c) s b x n e₄ in
    (omega (arith, (row_is h.count least s at r a e₁).goes, (bounded (budget_at h r) 12 12 s a c b e₃).some_bytes), long ∙ length-set l r c)

pub slot_goes : (h : Sheet) (l s : List ℕ) (at : ℕ) (x : List ℕ) (n : ℕ) → slot h l s at ≡ ok x n → (at < n) × (length x ≡ length l)
unfolding slot
slot_goes h l s at x n e =
    after_ok (number s at) _ e λ k a e₁ e₂.
    let (go, long) = releases_go h k 0 l s a x n e₂ in
    (omega (arith, (taken most_groups at 0 s at k a (omega arith) e₁).some_bytes), long)

-- the entries of the first n rows are read alike whatever is past them
told_pick : {A B : Type 0} (f : A → B) (x : Step ℕ) (g : ℕ → ℕ → Step A) (g' : ℕ → ℕ → Step B) → ((r m : ℕ) → x ≡ ok r m → map_step f (g r m) ≡ g' r m) → map_step f (after x g) ≡ after x g'
unfolding map_step
told_pick f (ok r m) g g' h = h r m refl
told_pick f (refuse k p) g g' h = refl

releases_front : (h : Sheet) (k least : ℕ) (l s : List ℕ) (at : ℕ) → map_step (take h.count) (releases h k least l s at) ≡ releases h k least (take h.count l) s at
unfolding releases map_step
releases_front h zero least l s at = refl
releases_front h (suc k) least l s at =
    told_pick (take h.count) (row h.count least s at) _ _ λ r a e₁.
    told_pick (take h.count) (up_to (budget_at h r) 12 12 s a) _ _ λ c b e₂.
    releases_front h k (r + 1) (set l r c) s b
    ∙ ap (λ (x : List ℕ). releases h k (r + 1) x s b) (take-set-lt h.count l r c (row_is h.count least s at r a e₁).few)

pub slot_front : (h : Sheet) (s : List ℕ) (at : ℕ) → h.count ≤ most_rows → map_step (take h.count) (slot h (no_releases most_rows) s at) ≡ slot h (no_releases h.count) s at
unfolding slot
slot_front h s at few =
    told_pick (take h.count) (number s at) _ _ λ k a e.
    releases_front h k 0 (no_releases most_rows) s a ∙ ap (λ (x : List ℕ). releases h k 0 x s a) (take-replicate h.count most_rows 0 few)

-- the reader of one slot on a legal sheet
pub read_slot_is : (h : Sheet) (s : List ℕ) (at : ℕ) → legal h ≡ true → read_slot h s at ≡ slot_handed (slot h (no_releases most_rows) s at)
unfolding read_slot
read_slot_is h s at fine = ap (λ (b : Bool). slot_handed (pick b (slot h (no_releases most_rows) s at) (refuse 10 0))) fine

-- what is past the entries of the rows stays as it is
releases_onto : (h : Sheet) (k least : ℕ) (l rest s : List ℕ) (at : ℕ) → h.count ≤ length l → map_step (λ (x : List ℕ). x ++ rest) (releases h k least l s at) ≡ releases h k least (l ++ rest) s at
unfolding releases map_step
releases_onto h zero least l rest s at long = refl
releases_onto h (suc k) least l rest s at long =
    told_pick (λ (x : List ℕ). x ++ rest) (row h.count least s at) _ _ λ r a e₁.
    told_pick (λ (x : List ℕ). x ++ rest) (up_to (budget_at h r) 12 12 s a) _ _ λ c b e₂.
    let here : r < length l = omega (arith, (row_is h.count least s at r a e₁).few) in
    releases_onto h k (r + 1) (set l r c) rest s b (omega (arith, length-set l r c))
    ∙ ap (λ (x : List ℕ). releases h k (r + 1) x s b) (sym (set-append_left l rest r c here))

pub slot_onto : (h : Sheet) (l rest s : List ℕ) (at : ℕ) → h.count ≤ length l → map_step (λ (x : List ℕ). x ++ rest) (slot h l s at) ≡ slot h (l ++ rest) s at
unfolding slot
slot_onto h l rest s at long = told_pick (λ (x : List ℕ). x ++ rest) (number s at) _ _ λ k a e. releases_onto h k 0 l rest s a long

-- whether a slot is refused, and where the next one begins, is the same into all entries
abbrev no_value : List ℕ → ℕ
no_value l = 0

alike_after : (x : Step ℕ) (f g : ℕ → ℕ → Step (List ℕ)) → ((r m : ℕ) → map_step no_value (f r m) ≡ map_step no_value (g r m)) → map_step no_value (after x f) ≡ map_step no_value (after x g)
unfolding map_step
alike_after (ok r m) f g h = h r m
alike_after (refuse k p) f g h = refl

releases_alike : (h : Sheet) (k least : ℕ) (l l' s : List ℕ) (at : ℕ) → map_step no_value (releases h k least l s at) ≡ map_step no_value (releases h k least l' s at)
unfolding releases map_step
releases_alike h zero least l l' s at = refl
releases_alike h (suc k) least l l' s at =
    alike_after (row h.count least s at) _ _ λ r a.
    alike_after (up_to (budget_at h r) 12 12 s a) _ _ λ c b.
    releases_alike h k (r + 1) (set l r c) (set l' r c) s b

slot_alike : (h : Sheet) (l l' s : List ℕ) (at : ℕ) → map_step no_value (slot h l s at) ≡ map_step no_value (slot h l' s at)
unfolding slot
slot_alike h l l' s at = alike_after (number s at) _ _ λ k a. releases_alike h k 0 l l' s a

pub slot_no : (h : Sheet) (l l' s : List ℕ) (at k p : ℕ) → slot h l s at ≡ refuse k p → slot h l' s at ≡ refuse k p
unfolding map_step
slot_no h l l' s at k p e = map_step_no no_value (slot h l' s at) (slot_alike h l' l s at ∙ ap (map_step no_value) e)

pub slot_yes : (h : Sheet) (l l' s : List ℕ) (at : ℕ) (x : List ℕ) (m : ℕ) → slot h l s at ≡ ok x m → (x' : List ℕ) × (slot h l' s at ≡ ok x' m)
unfolding map_step
slot_yes h l l' s at x m e =
    let (x', q, _) = map_step_ok no_value (slot h l' s at) (slot_alike h l' l s at ∙ ap (map_step no_value) e) in
    (x', q)

-- a slot more, and the end
pub slots_one : (h : Sheet) (f : ℕ) (s : List ℕ) (at : ℕ) (l : List ℕ) (m : ℕ) → at < length s → slot h (no_releases h.count) s at ≡ ok l m
    → slots h (suc f) s at ≡ after (slots h f s m) (λ y n. ok (slot_before l y) n)
unfolding slots
slots_one h f s at l m b e = simp (lt-ltb at (length s) b, e)

pub slots_no : (h : Sheet) (f : ℕ) (s : List ℕ) (at k p : ℕ) → at < length s → slot h (no_releases h.count) s at ≡ refuse k p → slots h (suc f) s at ≡ refuse k p
unfolding slots
slots_no h f s at k p b e = simp (lt-ltb at (length s) b, e)

pub slots_end : (h : Sheet) (f : ℕ) (s : List ℕ) (at : ℕ) → length s ≤ at → slots h f s at ≡ ok no_slots at
unfolding slots
slots_end h zero s at b = refl
slots_end h (suc f) s at b = simp (le-ltb at (length s) b)

-- slots that were read are the next one and the others
pub slots_apart : {R : Type 0} (h : Sheet) (f : ℕ) (s : List ℕ) (at : ℕ) {x : Held} {n : ℕ} → at < length s → slots h (suc f) s at ≡ ok x n
    → ((l : List ℕ) (m : ℕ) (y : Held) → slot h (no_releases h.count) s at ≡ ok l m → slots h f s m ≡ ok y n → slot_before l y ≡ x → R) → R
unfolding slots
slots_apart h f s at {x} {n} b e k =
    let e₀ : after (slot h (no_releases h.count) s at) (λ l m. after (slots h f s m) (λ y z. ok (slot_before l y) z)) ≡ ok x n = simp (lt-ltb at (length s) b) at e in
    after_ok (slot h (no_releases h.count) s at) _ e₀ λ l m e₁ e₂.
    after_ok (slots h f s m) _ e₂ λ y z e₃ e₄.
    let (ex, en) = ok_same e₄ in
    k l m y e₁ (e₃ ∙ ap (ok y) en) ex

-- a scenario is what stands after its mark
pub scenario_is : (h : Sheet) (s : List ℕ) → scenario h s 0 ≡ pick (begins mark_bytes s) (slots h (length s) s 4) (refuse 1 0)
unfolding scenario
scenario_is h s = go (begins mark_bytes s)
  where
    go : (t : Bool) → after (pick t (ok (tt {0}) 4) (refuse 1 0)) (λ u n. slots h (length s) s n) ≡ pick t (slots h (length s) s 4) (refuse 1 0)
    go true = refl
    go false = refl
