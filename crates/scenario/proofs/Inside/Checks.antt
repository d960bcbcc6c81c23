-- The checks of a list before it is written, and what a list that passes them shows. Assumes nothing.
use Rattle.std.proofs.Math.Nat.{mul-add-mod_self_right}
use Rattle.basis.specs.Prelude.{ℕ, zero, suc, ◌+◌, ◌*◌, ◌%◌, ◌≤◌, ◌<◌, ◌≡◌, refl, sym, ap, ap₂, ◌∙◌, Bool, true, false, List, [], ◌++◌, length, length-append, append_assoc, arith, add-suc, add-zero, eqb, get_or, get_or-append, get_or-append-add, eq-eqb, ne_eqb, eqb-true, lt-ltb, le-ltb, mod-eq_of_lt}
use Rattle.basis.specs.Refusals.{or_else}
use Rattle.basis.proofs.Inside.FirstRefusal.{first_same}
use Rattle.basis.proofs.Refusals.{or_nothing}
use Rattle.scenario.proofs.Names.{first_found, first_more, Outcome, accepted, refused, first_of, pick, check_list, check_whole, over_at, over_budget, budget_at, legal, Sheet}

-- entry i of a slot, where none before it is over
module _ (h : Sheet) (l : List ℕ) (i : ℕ) (b : i < h.count) (so_far : first_of i (over_at h l) ≡ accepted) (v : ℕ) (ev : v ≡ budget_at h i) where
  here_is : over_at h l i ≡ over_budget v (get_or l i 0) i
  unfolding over_at
  here_is = ap (λ (m : ℕ). over_budget (budget_at h m) (get_or l i 0) m) (mod-eq_of_lt b) ∙ ap (λ (k : ℕ). over_budget k (get_or l i 0) i) (sym ev)

  pub entry_over : i < length l → v < get_or l i 0 → refused 12 i ≡ first_of (length l) (over_at h l)
  unfolding over_budget
  entry_over c o = sym (first_found (length l) i (over_at h l) 12 i c so_far (here_is ∙ simp (lt-ltb v (get_or l i 0) o)))

  pub entry_fine : get_or l i 0 ≤ v → first_of (i + 1) (over_at h l) ≡ accepted
  unfolding over_budget
  entry_fine o = first_more i (over_at h l) so_far (here_is ∙ simp (le-ltb v (get_or l i 0) o))

-- the first refusal of two parts
first_both : (a m : ℕ) (f : ℕ → Outcome) → first_of (a + m) f ≡ or_else (first_of a f) (first_of m (λ i. f (a + i)))
unfolding first_of
first_both a zero f = ap (λ (k : ℕ). first_of k f) (add-zero a) ∙ sym (or_nothing (first_of a f))
first_both a (suc m) f =
    ap (λ (k : ℕ). first_of k f) (add-suc a m) ∙ ap (λ (o : Outcome). or_else o (f (a + m))) (first_both a m f) ∙ or_after (first_of a f) (first_of m (λ i. f (a + i))) (f (a + m))
  where
    or_after : (o p q : Outcome) → or_else (or_else o p) q ≡ or_else o (or_else p q)
    or_after accepted p q = refl
    or_after (refused j k) p q = refl

-- the slots so far, of which no entry is over, and the rest of the list
pub record Passed (h : Sheet) (l rest : List ℕ) : Type 0 where
  pub slots : ℕ
  pub done : List ℕ
  pub parts : l ≡ done ++ rest
  pub long : length done ≡ slots * h.count
  pub fine : first_of (length done) (over_at h l) ≡ accepted

pub none_passed : (h : Sheet) (l : List ℕ) → Passed h l l
unfolding first_of
none_passed h l = record { slots = 0; done = []; parts = refl; long = omega arith; fine = refl }

module _ (h : Sheet) (l rest : List ℕ) (w : Passed h l rest) where
  -- a slot more
  module _ (x r : List ℕ) (e : rest ≡ x ++ r) (lx : length x ≡ h.count) where
    there : (i : ℕ) → i < length x → over_at h l (length w.done + i) ≡ over_at h x i
    unfolding over_at
    there i b =
        let row : (length w.done + i) % h.count ≡ i % h.count = ap (λ (k : ℕ). (k + i) % h.count) w.long ∙ mul-add-mod_self_right w.slots h.count i in
        let here : get_or l (length w.done + i) 0 ≡ get_or x i 0 =
        ap (λ (z : List ℕ). get_or z (length w.done + i) 0) (w.parts ∙ ap (λ (z : List ℕ). w.done ++ z) e) ∙ get_or-append-add w.done (x ++ r) i 0 ∙ get_or-append x r 0 i b in
        ap₂ (λ (k : ℕ) (v : ℕ). over_budget (budget_at h k) v k) row here

    both_parts : first_of (length w.done + length x) (over_at h l) ≡ first_of (length x) (over_at h x)
    both_parts = first_both (length w.done) (length x) (over_at h l) ∙ ap (λ (o : Outcome). or_else o (first_of (length x) (λ i. over_at h l (length w.done + i)))) w.fine ∙ first_same (length x) _ (over_at h x) there

    pub slot_passed : accepted ≡ first_of (length x) (over_at h x) → Passed h l r
    slot_passed f = record {
      slots = w.slots + 1;
      done = w.done ++ x;
      parts = w.parts ∙ ap (λ (z : List ℕ). w.done ++ z) e ∙ sym (append_assoc w.done x r);
      long = omega (arith, length-append w.done x, w.long);
      fine = ap (λ (k : ℕ). first_of k (over_at h l)) (length-append w.done x) ∙ both_parts ∙ sym f;
    }

    pub slot_over : (a b : ℕ) → refused a b ≡ first_of (length x) (over_at h x) → refused a b ≡ first_of (length l) (over_at h l)
    slot_over a b f =
        let long : length l ≡ length w.done + length x + length r = omega (arith, ap length w.parts, ap length e, length-append w.done rest, length-append x r) in
        sym (ap (λ (k : ℕ). first_of k (over_at h l)) long ∙ first_both (length w.done + length x) (length r) (over_at h l) ∙ ap (λ (o : Outcome). or_else o (first_of (length r) (λ i. over_at h l (length w.done + length x + i)))) (both_parts ∙ sym f))

  -- no slot more
  pub all_passed : length rest < h.count → length l % h.count ≡ 0 → accepted ≡ first_of (length l) (over_at h l)
  all_passed b d =
      let long : length l ≡ length w.done + length rest = ap length w.parts ∙ length-append w.done rest in
      let none : length rest ≡ 0 = sym (ap (λ (k : ℕ). k % h.count) (long ∙ ap (λ (k : ℕ). k + length rest) w.long) ∙ mul-add-mod_self_right w.slots h.count (length rest) ∙ mod-eq_of_lt b) ∙ d in
      sym (ap (λ (k : ℕ). first_of k (over_at h l)) (long ∙ ap (λ (k : ℕ). length w.done + k) none ∙ add-zero (length w.done)) ∙ w.fine)

-- the ways out of `check_whole`
module _ (h : Sheet) (l : List ℕ) (n : ℕ) (en : n ≡ h.count) where
  pub list_uneven : (length l % n ≡ 0 → ⊥) → refused 11 0 ≡ check_whole h l
  unfolding check_whole
  list_uneven d = sym (simp (ne_eqb (length l % h.count) 0 (λ z. d (ap (λ (k : ℕ). length l % k) en ∙ z))))

  module _ (d : length l % n ≡ 0) where
    pub list_even : length l % h.count ≡ 0
    list_even = sym (ap (λ (k : ℕ). length l % k) en) ∙ d

    pub list_checked : (o : Outcome) → o ≡ first_of (length l) (over_at h l) → o ≡ check_whole h l
    unfolding check_whole
    list_checked o e = e ∙ sym (simp (eq-eqb (length l % h.count) 0 list_even))

-- what a list that is accepted shows
pub checked_legal : (h : Sheet) (l : List ℕ) → check_list h l ≡ accepted → legal h ≡ true
unfolding check_list
checked_legal h l e = go (legal h) refl e
  where
    go : (t : Bool) → legal h ≡ t → pick t (check_whole h l) (refused 10 0) ≡ accepted → legal h ≡ true
    go true q f = q
    go false q f = let z : ◌≡◌ {A = ℕ} 0 1 = cc in absurd (omega arith)

checked_whole : (h : Sheet) (l : List ℕ) → check_list h l ≡ accepted → check_whole h l ≡ accepted
unfolding check_list
checked_whole h l e = ap (λ (t : Bool). pick t (check_whole h l) (refused 10 0)) (sym (checked_legal h l e)) ∙ e

pub checked_even : (h : Sheet) (l : List ℕ) → check_list h l ≡ accepted → length l % h.count ≡ 0
unfolding check_whole
checked_even h l e = go (eqb (length l % h.count) 0) refl (checked_whole h l e)
  where
    go : (t : Bool) → eqb (length l % h.count) 0 ≡ t → pick t (first_of (length l) (over_at h l)) (refused 11 0) ≡ accepted → length l % h.count ≡ 0
    go true q f = eqb-true _ _ q
    go false q f = let z : ◌≡◌ {A = ℕ} 0 1 = cc in absurd (omega arith)

pub checked_entries : (h : Sheet) (l : List ℕ) → check_list h l ≡ accepted → first_of (length l) (over_at h l) ≡ accepted
unfolding check_whole
checked_entries h l e = ap (λ (t : Bool). pick t (first_of (length l) (over_at h l)) (refused 11 0)) (sym (eq-eqb _ _ (checked_even h l e))) ∙ checked_whole h l e
