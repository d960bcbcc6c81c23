-- A list that is written is read back as it was. Assumes nothing.
use Rattle.basis.specs.Prelude.{ℕ, zero, suc, ◌+◌, ◌*◌, ◌≤◌, ◌<◌, ◌≡◌, ◌^◌, ◌%◌, refl, sym, ap, subst, ap₂, ◌∙◌, true, Bool, List, false, ⊎_elim, [], mod-eq_of_lt, add-mod_left, get_or-drop, ◌∷◌, ◌++◌, append-nil, arith, append_assoc, length, not-suc-le-zero, take, set_at, add-one, get_or, le_refl, set, drop, take-append-drop, length-drop, get_or-take, eqb-false, length-append, eqb, length-take-le, eqb-true, lt-ltb, le-ltb}
use Rattle.scenario.proofs.Names.{most_groups, pick, ok, give, begins, lt_or_le, number, up_to, spell, spelt_one, spelt_more_lem, Reads, at_place, reads_give, reads_then, reads_number, reads_up_to, Legal, Sheet, no_slots, mark_bytes, budget_at, no_releases, row, releases, slot, slots, scenario, releases_in, releases_bytes, slot_bytes, slots_bytes, scenario_bytes}

-- at least one byte for a number
pub some_bytes : (v : ℕ) → 1 ≤ length (spell v)
some_bytes v = ⊎_elim (λ h. omega (arith, ap length (spelt_one 2 v h))) (λ h. omega (arith, ap length (spelt_more_lem 2 v h))) (lt_or_le v 128)

-- no more releases than entries
pub released_few : (l : List ℕ) → releases_in l ≤ length l
unfolding releases_in
released_few [] = le_refl 0
released_few (v ∷ l) = go (eqb v 0) (released_few l)
  where
    go : (t : Bool) → releases_in l ≤ length l → pick t (releases_in l) (suc (releases_in l)) ≤ suc (length l)
    go true h = omega arith
    go false h = omega arith

reads_row : (n least r : ℕ) → r < 128 ^ most_groups → r < n → least ≤ r → Reads (row n least) (spell r) r
unfolding row
reads_row n least r small h l = record {
  back = λ p q. simp ((reads_number r small).back p q, lt-ltb r n h, le-ltb r least l);
}

-- entries of which the first is that of row i, none over its budget
pub record Fit (h : Sheet) (i : ℕ) (l : List ℕ) : Type 0 where
  pub inside : i + length l ≡ h.count
  pub not_over : (j : ℕ) → j < length l → get_or l j 0 ≤ budget_at h (i + j)

fit_rest : (h : Sheet) (i v : ℕ) (l : List ℕ) → Fit h i (v ∷ l) → Fit h (suc i) l
fit_rest h i v l f = record {
  inside = omega (arith, f.inside);
  not_over = λ j b. let e : i + suc j ≡ suc i + j = omega arith in subst (λ (k : ℕ). get_or l j 0 ≤ budget_at h k) e (f.not_over (suc j) (omega arith));
}

module _ (h : Sheet) (fine : Legal h) where
  -- a budget is a number of the file
  budget_small : (i : ℕ) → i < h.count → budget_at h i < 128 ^ most_groups
  budget_small i b =
      let r = fine.rows i b in
      omega (arith, r.at_most_budget, r.at_most_deadline, r.at_most_separation)

  -- entries after those of the rows passed
  reads_releases : (l pre acc : List ℕ) (least i : ℕ) → least ≤ i → length pre ≡ i → acc ≡ pre ++ no_releases (length l) → Fit h i l
      → Reads (releases h (releases_in l) least acc) (releases_bytes i l) (pre ++ l)
  unfolding releases_in releases_bytes releases
  reads_releases [] pre acc least i low long e f = subst (λ (a : List ℕ). Reads (give a) [] (pre ++ [])) (sym e) (reads_give (pre ++ []))
  reads_releases (v ∷ l) pre acc least i low long e f =
      go (eqb v 0) refl
      (λ acc' least' low' e'. reads_releases l (pre ++ (v ∷ [])) acc' least' (suc i) low' (length-append pre (v ∷ []) ∙ omega arith) e' (fit_rest h i v l f))
    where
      whole : (pre ++ (v ∷ [])) ++ l ≡ pre ++ (v ∷ l)
      whole = append_assoc pre (v ∷ []) l

      go : (t : Bool) → eqb v 0 ≡ t
          → ((acc' : List ℕ) (least' : ℕ) → least' ≤ suc i → acc' ≡ (pre ++ (v ∷ [])) ++ no_releases (length l)
          → Reads (releases h (releases_in l) least' acc') (releases_bytes (suc i) l) ((pre ++ (v ∷ [])) ++ l))
          → Reads (releases h (pick t (releases_in l) (suc (releases_in l))) least acc) (pick t (releases_bytes (suc i) l) (spell i ++ (spell v ++ releases_bytes (suc i) l))) (pre ++ (v ∷ l))
      go true t ih =
          let z : v ≡ 0 = eqb-true v 0 t in
          let e' : acc ≡ (pre ++ (v ∷ [])) ++ no_releases (length l) =
          e ∙ ap (λ (x : ℕ). pre ++ (x ∷ no_releases (length l))) (sym z) ∙ sym (append_assoc pre (v ∷ []) (no_releases (length l))) in
          subst (λ (x : List ℕ). Reads (releases h (releases_in l) least acc) (releases_bytes (suc i) l) x) whole (ih acc least (omega arith) e')
      go false t ih =
          let pos : 0 < v = omega (arith, eqb-false v 0 t) in
          let in_rows : i < h.count = omega (arith, f.inside) in
          let i0 : i + 0 ≡ i = omega arith in
          let few : v ≤ budget_at h i = subst (λ (k : ℕ). v ≤ budget_at h k) i0 (f.not_over 0 (omega arith)) in
          let stored : set acc i v ≡ (pre ++ (v ∷ [])) ++ no_releases (length l) =
          ap (λ (x : List ℕ). set x i v) e ∙ set_at pre 0 (no_releases (length l)) v i long ∙ sym (append_assoc pre (v ∷ []) (no_releases (length l))) in
          reads_then (row h.count least) _ (reads_row h.count least i (omega (arith, fine.at_most_rows)) in_rows low)
          (reads_then (up_to (budget_at h i) 12 12) _ (reads_up_to (budget_at h i) 12 12 v (omega (arith, budget_small i in_rows)) pos few)
          (subst (λ (x : List ℕ). Reads (releases h (releases_in l) (i + 1) (set acc i v)) (releases_bytes (suc i) l) x) whole (ih (set acc i v) (i + 1) (omega arith) stored)))

  -- a slot
  pub reads_slot : (l : List ℕ) → Fit h 0 l → Reads (slot h (no_releases h.count)) (slot_bytes l) l
  unfolding slot slot_bytes
  reads_slot l f =
      let long : length l ≡ h.count = omega (arith, f.inside) in
      reads_then number _ (reads_number (releases_in l) (omega (arith, released_few l, fine.at_most_rows)))
      (reads_releases l [] (no_releases h.count) 0 0 (omega arith) refl (ap no_releases (sym long)) f)

-- a list of k slots, no entry over the budget of its row
pub record Fits (h : Sheet) (k : ℕ) (l : List ℕ) : Type 0 where
  pub whole : length l ≡ k * h.count
  pub not_over : (i : ℕ) → i < length l → get_or l i 0 ≤ budget_at h (i % h.count)

-- its first slot, and the others
module _ (h : Sheet) (k : ℕ) (l : List ℕ) (f : Fits h (suc k) l) where
  fits_first : Fit h 0 (take h.count l)
  fits_first =
      let long : length (take h.count l) ≡ h.count = length-take-le h.count l (omega (arith, f.whole)) in
      record {
        inside = omega arith;
        not_over = λ j b.
            let c : j < h.count = omega arith in
            let e : j % h.count ≡ 0 + j = mod-eq_of_lt c ∙ omega arith in
            rw (get_or-take h.count l j 0 c) (subst (λ (i : ℕ). get_or l j 0 ≤ budget_at h i) e (f.not_over j (omega (arith, f.whole))));
      }

  fits_rest : 0 < h.count → Fits h k (drop h.count l)
  fits_rest pos = record {
    whole = omega (arith, length-drop h.count l, f.whole);
    not_over = λ i b.
        rw (get_or-drop h.count l i 0)
        (subst (λ (j : ℕ). get_or l (h.count + i) 0 ≤ budget_at h j) (add-mod_left h.count i) (f.not_over (h.count + i) (omega (arith, length-drop h.count l))));
  }

-- a slot takes a byte or more
pub slot_some : (l : List ℕ) → 1 ≤ length (slot_bytes l)
unfolding slot_bytes
slot_some l = omega (arith, length-append (spell (releases_in l)) (releases_bytes 0 l), some_bytes (releases_in l))

slots_some : (n k : ℕ) (l : List ℕ) → k ≤ length (slots_bytes n k l)
unfolding slots_bytes
slots_some n zero l = omega arith
slots_some n (suc k) l = omega (arith, length-append (slot_bytes (take n l)) (slots_bytes n k (drop n l)), slot_some (take n l), slots_some n k (drop n l))

module _ (h : Sheet) (fine : Legal h) where
  -- k slots, after which the bytes end
  reads_slots : (k g : ℕ) (l p s : List ℕ) (at : ℕ) → k ≤ g → Fits h k l → s ≡ p ++ slots_bytes h.count k l → at ≡ length p
      → slots h g s at ≡ ok (record { slots = k; entries = l }) (length s)
  unfolding slots slots_bytes
  reads_slots zero g [] p s at few f e a = none g
    where
      ends : at ≡ length s
      ends = a ∙ ap length (sym (e ∙ append-nil p))

      none : (g : ℕ) → slots h g s at ≡ ok no_slots (length s)
      none zero = ap (ok no_slots) ends
      none (suc g) = simp (le-ltb at (length s) (omega (arith, ends))) (ap (ok no_slots) ends)
  reads_slots zero g (v ∷ l) p s at few f e a = absurd (omega (arith, f.whole))
  reads_slots (suc k) zero l p s at few f e a = absurd (not-suc-le-zero few)
  reads_slots (suc k) (suc g) l p s at few f e a =
      let n : ℕ = h.count in
      let first : List ℕ = take n l in
      let rest : List ℕ = drop n l in
      let bytes : List ℕ = slot_bytes first in
      let more : List ℕ = slots_bytes n k rest in
      let there : at < length s = omega (arith, ap length e, length-append p (bytes ++ more), length-append bytes more, slot_some first) in
      let e₁ : slot h (no_releases n) s at ≡ ok first (at + length bytes) = at_place (reads_slot h fine first (fits_first h k l f)) s p more at e a in
      let e₂ : slots h g s (at + length bytes) ≡ ok (record { slots = k; entries = rest }) (length s) =
      reads_slots k g rest (p ++ bytes) s (at + length bytes) (omega arith) (fits_rest h k l f fine.some_rows) (e ∙ sym (append_assoc p bytes more)) (omega (arith, length-append p bytes)) in
      simp (lt-ltb at (length s) there, e₁, e₂) (ap₂ (λ (j : ℕ) (x : List ℕ). ok (record { slots = j; entries = x }) (length s)) (add-one k) (take-append-drop n l))

  -- what is written is read back
  pub written_is_read : (k : ℕ) (l : List ℕ) → Fits h k l → scenario h (scenario_bytes h.count k l) 0 ≡ ok (record { slots = k; entries = l }) (length (scenario_bytes h.count k l))
  unfolding scenario scenario_bytes begins
  written_is_read k l f =
      let b : List ℕ = slots_bytes h.count k l in
      let s : List ℕ = mark_bytes ++ b in
      reads_slots k (length s) l mark_bytes s 4 (omega (arith, length-append mark_bytes b, slots_some h.count k l)) f refl refl
