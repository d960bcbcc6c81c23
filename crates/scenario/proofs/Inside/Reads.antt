-- The ways out of the reader of a scenario. Assumes nothing.
use Rattle.std.specs.Prelude.{Ok, Err}
use Rattle.basis.specs.declared.refusal.Refusal.TheVariants as refusals
use Rattle.basis.specs.Prelude.{ℕ, zero, suc, ◌+◌, ◌*◌, ◌/◌, ◌≤◌, ◌<◌, ◌≡◌, sym, ap, ap₂, subst, ◌∙◌, div-lt_iff_lt-mul, le-div_iff_mul-le, Bool, true, false, List, ⊎_elim, ◌++◌, arith, length, sets, sets-eq, take, take_at, drop, drop_at, zero-add, length-append, length-replicate, le-ltb, le-leb, lt-leb, length-take-le}
use Rattle.scenario.proofs.Names.{Refusal, Counted, ok_same, lt_or_le, Step, ok, refuse, begins, accepted, refused, pick, Answer, answer, filled_by, nothing_by, read_told, read_scenario, Held, mark_bytes, no_releases, no_slots, scenario, slots, Fills, fill_by, legal, sheet_in, Sheet}
use Rattle.scenario.proofs.Inside.OneSlot.{slot_goes, slots_apart, scenario_is}

-- as many entries as slots say
slots_long : (h : Sheet) (f : ℕ) (s : List ℕ) (at : ℕ) (x : Held) (n : ℕ) → slots h f s at ≡ ok x n → length x.entries ≡ x.slots * h.count
unfolding slots
slots_long h zero s at x n e = let (ex, _) = ok_same e in subst (λ (y : Held). length y.entries ≡ y.slots * h.count) ex (omega arith)
slots_long h (suc f) s at x n e =
    ⊎_elim
    (λ b.
    slots_apart h f s at b e λ l m y e₁ e₂ ex.
    let here : length l ≡ h.count = (slot_goes h (no_releases h.count) s at l m e₁).1 ∙ length-replicate h.count 0 in
    subst (λ (v : Held). length v.entries ≡ v.slots * h.count) ex (omega (arith, length-append l y.entries, slots_long h f s m y n e₂)))
    (λ b.
    let e₀ : ok no_slots at ≡ ok x n = simp (le-ltb at (length s) b) at e in
    let (ex, _) = ok_same e₀ in
    subst (λ (y : Held). length y.entries ≡ y.slots * h.count) ex (omega arith))
    (lt_or_le at (length s))

-- what is read after the mark, of which k slots are counted
module _ (h : Sheet) (s out : List ℕ) (n : ℕ) (en : n ≡ h.count) (pos : 1 ≤ n) (k : ℕ) (w : Counted (slots h (length s) s 4) (Ok k)) where
  -- as many entries
  as_many : length w.0.entries ≡ k * n
  as_many = let (y, m, q, ek) = w in slots_long h (length s) s 4 y m q ∙ ap₂ (λ (i : ℕ) (j : ℕ). i * j) ek (sym en)

  pub read_short : length out / n < k → nothing_by (refused 15 0) out ≡ filled_by (slots h (length s) s 4) out
  read_short c =
      let (y, m, q, ek) = w in
      let over : length out < length y.entries = omega (arith, (div-lt_iff_lt-mul {k = n} {x = length out} {y = k} pos).0 c, as_many) in
      sym (ap (λ (z : Step Held). filled_by z out) q ∙ simp (lt-leb (length y.entries) (length out) over))

  -- where there is room: as many entries are made zero as there are to be filled
  module _ (c : k ≤ length out / n) (zeros : List ℕ) (ez : zeros ≡ no_releases (length (take (k * n) out))) where
    room : k * n ≤ length out
    room = (le-div_iff_mul-le {k = n} {x = k} {y = length out} pos).0 c

    zeros_long : length zeros ≡ k * n
    zeros_long = ap length ez ∙ length-replicate (length (take (k * n) out)) 0 ∙ length-take-le (k * n) out room

    pub fill_room : Fills (slots h (length s) s 4) (zeros ++ drop (k * n) out)
    fill_room =
        let (y, m, q, ek) = w in
        subst (λ (z : Step Held). Fills z (zeros ++ drop (k * n) out)) (sym q)
        (ap (λ (i : ℕ). take i (zeros ++ drop (k * n) out)) as_many ∙ take_at zeros (drop (k * n) out) (k * n) zeros_long ∙ ez ∙ ap no_releases (length-take-le (k * n) out room ∙ sym as_many))

    pub read_whole : (l' : List ℕ) → l' ≡ fill_by (slots h (length s) s 4) (zeros ++ drop (k * n) out) → answer accepted k l' ≡ filled_by (slots h (length s) s 4) out
    read_whole l' f =
        let (y, m, q, ek) = w in
        let fits : length y.entries ≤ length out = omega (arith, room, as_many) in
        let past : drop (length y.entries) (zeros ++ drop (k * n) out) ≡ drop (0 + length y.entries) out =
        ap (λ (i : ℕ). drop i (zeros ++ drop (k * n) out)) as_many ∙ drop_at zeros (drop (k * n) out) (k * n) zeros_long
        ∙ ap (λ (i : ℕ). drop i out) (sym (zero-add (length y.entries) ∙ as_many)) in
        let put : l' ≡ sets out 0 y.entries =
        f ∙ ap (λ (z : Step Held). fill_by z (zeros ++ drop (k * n) out)) q ∙ ap (λ (z : List ℕ). y.entries ++ z) past ∙ sym (sets-eq y.entries out 0 (omega arith)) in
        sym (ap (λ (z : Step Held). filled_by z out) q ∙ simp (le-leb (length y.entries) (length out) fits) (ap₂ (λ (j : ℕ) (z : List ℕ). answer accepted j z) ek (sym put)))

-- the ways out of `read_scenario`
pub read_illegal : (h : Sheet) (s out : List ℕ) (r : Refusal) → (r ≡ refusals.Sheet) × (legal h ≡ false) → read_told (Err r) out ≡ read_scenario h s out
unfolding read_scenario
read_illegal h s out r (e, f) = ap (λ (x : Refusal). read_told (Err x) out) e ∙ sym (ap (λ (b : Bool). pick b (filled_by (scenario h s 0) out) (nothing_by (refused 10 0) out)) f)

module _ (l l₀ s out : List ℕ) (same : (l ≡ l₀) × (legal (sheet_in l₀) ≡ true)) (b : Bool) (eb : b ≡ begins mark_bytes s) where
  read_as : read_scenario (sheet_in l₀) s out ≡ filled_by (pick b (slots (sheet_in l) (length s) s 4) (refuse 1 0)) out
  unfolding read_scenario
  read_as =
      ap (λ (t : Bool). pick t (filled_by (scenario (sheet_in l₀) s 0) out) (nothing_by (refused 10 0) out)) same.1
      ∙ ap (λ (x : Step Held). filled_by x out) (scenario_is (sheet_in l₀) s ∙ ap₂ (λ (t : Bool) (z : List ℕ). pick t (slots (sheet_in z) (length s) s 4) (refuse 1 0)) (sym eb) (sym same.0))

  pub read_unmarked : b ≡ false → nothing_by (refused 1 0) out ≡ read_scenario (sheet_in l₀) s out
  read_unmarked f = sym (read_as ∙ ap (λ (t : Bool). filled_by (pick t (slots (sheet_in l) (length s) s 4) (refuse 1 0)) out) f)

  pub read_rest : b ≡ true → (a : Answer) → a ≡ filled_by (slots (sheet_in l) (length s) s 4) out → a ≡ read_scenario (sheet_in l₀) s out
  read_rest is a f = f ∙ sym (read_as ∙ ap (λ (t : Bool). filled_by (pick t (slots (sheet_in l) (length s) s 4) (refuse 1 0)) out) is)
