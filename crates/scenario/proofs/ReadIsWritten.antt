-- A scenario that is read is the one that would be written: writing it gives its very bytes. Assumes nothing.
use Rattle.basis.specs.Prelude.{ℕ, zero, ◌+◌, suc, ◌-◌, ◌≤◌, ◌<◌, ◌≡◌, ◌%◌, refl, sym, ap, ◌∙◌, ap₂, subst, List, Bool, replicate-append-replicate, add-mod_left, mod-eq_of_lt, ⊎_elim, [], ◌++◌, ◌∷◌, arith, get_or-append, append_assoc, take_at, length, get_or-append-add, set_at, add-one, get_or, set, length-append, length-replicate, drop_at, le-ltb, ne_eqb}
use Rattle.scenario.proofs.Names.{get_d_all, after_ok, marked_ok, ok_same, lt_or_le, Bytes, marked, ok, pick, bounded, Covers, covers_all, covers_as, covers_mark, covers_none, covers_number, covers_then, covers_up_to, number, spell, up_to, Held, budget_at, mark_bytes, no_releases, no_slots, releases, row, scenario, slot, slots, releases_bytes, releases_in, scenario_bytes, slot_bytes, slots_bytes, Sheet}
use Rattle.scenario.proofs.Inside.OneSlot.{row_is, slot_goes, slots_apart}
use Rattle.scenario.proofs.WrittenIsRead.{Fit, Fits}

-- rows without a release take no byte
skip : (d i : ℕ) (l : List ℕ) → releases_bytes i (no_releases d ++ l) ≡ releases_bytes (i + d) l
unfolding releases_bytes
skip zero i l = ap (λ (k : ℕ). releases_bytes k l) (omega arith)
skip (suc d) i l = skip d (suc i) l ∙ ap (λ (k : ℕ). releases_bytes k l) (omega arith)

skip_count : (d : ℕ) (l : List ℕ) → releases_in (no_releases d ++ l) ≡ releases_in l
unfolding releases_in
skip_count zero l = refl
skip_count (suc d) l = skip_count d l

-- no release at all
no_bytes : (j i : ℕ) → releases_bytes i (no_releases j) ≡ []
unfolding releases_bytes
no_bytes zero i = refl
no_bytes (suc j) i = no_bytes j (suc i)

no_count : (j : ℕ) → releases_in (no_releases j) ≡ 0
unfolding releases_in
no_count zero = refl
no_count (suc j) = no_count j

-- an entry that is a release
one : (c i : ℕ) (l : List ℕ) → 0 < c → releases_bytes i (c ∷ l) ≡ spell i ++ (spell c ++ releases_bytes (i + 1) l)
unfolding releases_bytes
one c i l pos =
    ap (λ (t : Bool). pick t (releases_bytes (suc i) l) (spell i ++ (spell c ++ releases_bytes (suc i) l))) (ne_eqb c 0 (λ z. omega arith))
    ∙ ap (λ (k : ℕ). spell i ++ (spell c ++ releases_bytes k l)) (sym (add-one i))

one_count : (c : ℕ) (l : List ℕ) → 0 < c → releases_in (c ∷ l) ≡ suc (releases_in l)
unfolding releases_in
one_count c l pos = ap (λ (t : Bool). pick t (releases_in l) (suc (releases_in l))) (ne_eqb c 0 (λ z. omega arith))

-- the entries with a release of row r, d rows past those before
long_before : (pre : List ℕ) (i r d c : ℕ) → length pre ≡ i → i + d ≡ r → length ((pre ++ no_releases d) ++ (c ∷ [])) ≡ r + 1
long_before pre i r d c lp ir = omega (arith, length-append (pre ++ no_releases d) (c ∷ []), length-append pre (no_releases d), length-replicate {A = ℕ} d 0)

stored_before : (pre acc : List ℕ) (i j r d g c : ℕ) → length pre ≡ i → i + d ≡ r → j ≡ d + suc g → acc ≡ pre ++ no_releases j
    → set acc r c ≡ ((pre ++ no_releases d) ++ (c ∷ [])) ++ no_releases g
stored_before pre acc i j r d g c lp ir ej ea =
    let er : length (pre ++ no_releases d) ≡ r = omega (arith, length-append pre (no_releases d), length-replicate {A = ℕ} d 0) in
    let zs : no_releases j ≡ no_releases d ++ (0 ∷ no_releases g) = ap no_releases ej ∙ sym (replicate-append-replicate d (suc g) 0) in
    ap (λ (x : List ℕ). set x r c) (ea ∙ ap (λ (x : List ℕ). pre ++ x) zs ∙ sym (append_assoc pre (no_releases d) (0 ∷ no_releases g)))
    ∙ set_at (pre ++ no_releases d) 0 (no_releases g) c r er
    ∙ sym (append_assoc (pre ++ no_releases d) (c ∷ []) (no_releases g))

-- what was read of a slot from row i on
record Rest (h : Sheet) (s : List ℕ) (k : ℕ) (pre : List ℕ) (i j at : ℕ) (l : List ℕ) (n : ℕ) : Type 0 where
  entries : List ℕ
  joined : l ≡ pre ++ entries
  long : length entries ≡ j
  covers : Covers s at n (releases_bytes i entries)
  many : releases_in entries ≡ k
  not_over : (x : ℕ) → x < j → get_or entries x 0 ≤ budget_at h (i + x)

module _ (s : List ℕ) (bytes : Bytes s) where
  -- a release before the rest
  release_before : (h : Sheet) (k : ℕ) (pre : List ℕ) (i j at : ℕ) (l : List ℕ) (n r c a b d g : ℕ) → i + d ≡ r → j ≡ d + suc g → Covers s at a (spell r) → Covers s a b (spell c)
      → 0 < c → c ≤ budget_at h r → Rest h s k ((pre ++ no_releases d) ++ (c ∷ [])) (r + 1) g b l n → Rest h s (suc k) pre i j at l n
  release_before h k pre i j at l n r c a b d g ir ej first second pos le rest =
      let m : List ℕ = rest.entries in
      let spelled : spell r ++ (spell c ++ releases_bytes (r + 1) m) ≡ releases_bytes i (no_releases d ++ (c ∷ m)) =
      sym (skip d i (c ∷ m) ∙ ap (λ (x : ℕ). releases_bytes x (c ∷ m)) ir ∙ one c r m pos) in
      record {
        entries = no_releases d ++ (c ∷ m);
        joined = rest.joined ∙ append_assoc (pre ++ no_releases d) (c ∷ []) m ∙ append_assoc pre (no_releases d) (c ∷ m);
        long = omega (arith, length-append (no_releases d) (c ∷ m), length-replicate {A = ℕ} d 0, rest.long);
        covers = covers_as s refl spelled (covers_then s first (covers_then s second rest.covers));
        many = skip_count d (c ∷ m) ∙ one_count c m pos ∙ ap suc rest.many;
        not_over = λ x lt. at_entry h i d c r m ir le (λ y ly. rest.not_over y (omega (arith, rest.long))) x (omega (arith, rest.long));
      }
    where
      at_entry : (h : Sheet) (i d c r : ℕ) (m : List ℕ) → i + d ≡ r → c ≤ budget_at h r → ((y : ℕ) → y < length m → get_or m y 0 ≤ budget_at h (r + 1 + y))
          → (x : ℕ) → x < d + suc (length m) → get_or (no_releases d ++ (c ∷ m)) x 0 ≤ budget_at h (i + x)
      at_entry h i zero c r m ir le f zero lt = let q : r ≡ i + 0 = omega arith in subst (λ (z : ℕ). c ≤ budget_at h z) q le
      at_entry h i zero c r m ir le f (suc x) lt = let q : r + 1 + x ≡ i + suc x = omega arith in subst (λ (z : ℕ). get_or m x 0 ≤ budget_at h z) q (f x (omega arith))
      at_entry h i (suc d) c r m ir le f zero lt = omega arith
      at_entry h i (suc d) c r m ir le f (suc x) lt =
          let q : suc i + x ≡ i + suc x = omega arith in
          subst (λ (z : ℕ). get_or (no_releases d ++ (c ∷ m)) x 0 ≤ budget_at h z) q (at_entry h (suc i) d c r m (omega arith) le f x (omega arith))

  releases_are : (h : Sheet) (k : ℕ) (pre acc : List ℕ) (i j at : ℕ) (l : List ℕ) (n : ℕ) → at ≤ length s → length pre ≡ i → i + j ≡ h.count → acc ≡ pre ++ no_releases j
      → releases h k i acc s at ≡ ok l n → Rest h s k pre i j at l n
  unfolding releases
  releases_are h zero pre acc i j at l n inside lp lj ea e =
      let (el, en) = ok_same e in
      record {
        entries = no_releases j;
        joined = sym el ∙ ea;
        long = length-replicate j 0;
        covers = covers_as s en (sym (no_bytes j i)) (covers_none s at inside);
        many = no_count j;
        not_over = λ x b. omega (arith, get_d_all {A = ℕ} j x 0);
      }
  releases_are h (suc k) pre acc i j at l n inside lp lj ea e =
      after_ok (row h.count i s at) _ e λ r a e₁ e₂.
      after_ok (up_to (budget_at h r) 12 12 s a) _ e₂ λ c b e₃ e₄.
      let ri = row_is h.count i s at r a e₁ in
      let cb = bounded (budget_at h r) 12 12 s a c b e₃ in
      let ir : i + (r - i) ≡ r = omega (arith, ri.above) in
      let ej : j ≡ r - i + suc (h.count - (r + 1)) = omega (arith, ri.above, ri.few) in
      release_before h k pre i j at l n r c a b (r - i) (h.count - (r + 1)) ir ej (covers_number s bytes at r a ri.read) (covers_up_to s bytes (budget_at h r) 12 12 a c b e₃) cb.positive cb.not_over
      (releases_are h k ((pre ++ no_releases (r - i)) ++ (c ∷ [])) (set acc r c) (r + 1) (h.count - (r + 1)) b l n cb.in_bytes (long_before pre i r (r - i) c lp ir) (omega (arith, ri.few))
      (stored_before pre acc i j r (r - i) (h.count - (r + 1)) c lp ir ej ea) e₄)

  -- a slot
  slot_is : (h : Sheet) (at : ℕ) (l : List ℕ) (n : ℕ) → slot h (no_releases h.count) s at ≡ ok l n → Covers s at n (slot_bytes l) × Fit h 0 l
  unfolding slot slot_bytes
  slot_is h at l n e =
      after_ok (number s at) _ e λ k a e₁ e₂.
      let first = covers_number s bytes at k a e₁ in
      let r = releases_are h k [] (no_releases h.count) 0 h.count a l n first.inside refl (omega arith) refl e₂ in
      let whole : Covers s at n (slot_bytes r.entries) =
      covers_then s (covers_as s refl (ap spell (sym r.many)) first) r.covers in
      let el : r.entries ≡ l = sym r.joined in (
        subst (λ (x : List ℕ). Covers s at n (slot_bytes x)) el whole,
        subst (Fit h 0) el (record { inside = omega (arith, r.long); not_over = λ j b. r.not_over j (omega (arith, r.long)) }),
      )

-- a slot before others
fits_before : (h : Sheet) (k : ℕ) (l m : List ℕ) → Fit h 0 l → Fits h k m → Fits h (k + 1) (l ++ m)
fits_before h k l m f g =
    let n : length l ≡ h.count = omega (arith, f.inside) in
    record {
      whole = omega (arith, length-append l m, f.inside, g.whole);
      not_over = λ i b. ⊎_elim (λ a. front i a) (λ a. back i a (omega (arith, length-append l m))) (lt_or_le i (length l));
    }
  where
    front : (i : ℕ) → i < length l → get_or (l ++ m) i 0 ≤ budget_at h (i % h.count)
    front i a =
        let e : 0 + i ≡ i % h.count = omega arith ∙ sym (mod-eq_of_lt (omega (arith, f.inside))) in
        rw (get_or-append l m 0 i a) (subst (λ (j : ℕ). get_or l i 0 ≤ budget_at h j) e (f.not_over i a))

    back : (i : ℕ) → length l ≤ i → i < length l + length m → get_or (l ++ m) i 0 ≤ budget_at h (i % h.count)
    back i a b =
        let j : ℕ = i - length l in
        let e : length l + j ≡ i = omega arith in
        let em : j % h.count ≡ i % h.count = sym (add-mod_left h.count j) ∙ ap (λ (x : ℕ). x % h.count) (omega (arith, f.inside)) in
        subst (λ (x : ℕ). get_or (l ++ m) x 0 ≤ budget_at h (i % h.count)) e
        (rw (get_or-append-add l m j 0) (subst (λ (x : ℕ). get_or m j 0 ≤ budget_at h x) em (g.not_over j (omega arith))))

module _ (s : List ℕ) (bytes : Bytes s) (h : Sheet) where
  record All (at : ℕ) (x : Held) (n : ℕ) : Type 0 where
    covers : Covers s at n (slots_bytes h.count x.slots x.entries)
    fits : Fits h x.slots x.entries
    end : length s ≤ n

  none_are : (at n : ℕ) (x : Held) → at ≤ length s → length s ≤ at → ok no_slots at ≡ ok x n → All at x n
  unfolding slots_bytes
  none_are at n x inside ends e =
      let (ex, en) = ok_same e in
      subst (λ (y : Held). All at y n) ex
      (record {
        covers = covers_as s en refl (covers_none s at inside);
        fits = record { whole = omega arith; not_over = λ i b. absurd (omega arith) };
        end = omega arith;
      })

  -- slots up to the end
  slots_are : (f at : ℕ) (x : Held) (n : ℕ) → at ≤ length s → length s ≤ at + f → slots h f s at ≡ ok x n → All at x n
  unfolding slots slots_bytes
  slots_are zero at x n inside fuel e = none_are at n x inside (omega arith) e
  slots_are (suc f) at x n inside fuel e =
      ⊎_elim
      (λ b.
      slots_apart h f s at b e λ l m y e₁ e₂ ex.
      let (first, fit) = slot_is s bytes h at l m e₁ in
      let rest = slots_are f m y n first.inside (omega (arith, (slot_goes h (no_releases h.count) s at l m e₁).0)) e₂ in
      let long : length l ≡ h.count = omega (arith, fit.inside) in
      let joined : slot_bytes l ++ slots_bytes h.count y.slots y.entries ≡ slots_bytes h.count (y.slots + 1) (l ++ y.entries) =
      sym (ap (λ (k : ℕ). slots_bytes h.count k (l ++ y.entries)) (add-one y.slots)
      ∙ ap₂ (λ (a : List ℕ) (c : List ℕ). slot_bytes a ++ slots_bytes h.count y.slots c) (take_at l y.entries h.count long) (drop_at l y.entries h.count long)) in
      subst (λ (v : Held). All at v n) ex
      (record {
        covers = covers_as s refl joined (covers_then s first rest.covers);
        fits = fits_before h y.slots l y.entries fit rest.fits;
        end = rest.end;
      }))
      (λ b. none_are at n x inside b (simp (le-ltb at (length s) b) at e))
      (lt_or_le at (length s))

  -- what is read is what is written, and fits
  pub read_is_written : (x : Held) (n : ℕ) → scenario h s 0 ≡ ok x n → (s ≡ scenario_bytes h.count x.slots x.entries) × Fits h x.slots x.entries
  unfolding scenario scenario_bytes
  read_is_written x n e =
      after_ok (marked mark_bytes s 0) _ e λ u z e₁ e₂.
      let (is, ez) = marked_ok mark_bytes s 0 u z e₁ in
      let mark = covers_as s ez refl (covers_mark mark_bytes s is) in
      let r = slots_are (length s) z x n mark.inside (omega arith) e₂ in
      (covers_all s (covers_then s mark r.covers) r.end, r.fits)
