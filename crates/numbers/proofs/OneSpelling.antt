-- A value has one spelling: what `groups` accepts is what `spelt` writes, and `groups` accepts that. Assumes nothing.
use Rattle.basis.specs.Prelude.{ℕ, zero, suc, ◌+◌, ◌-◌, ◌*◌, ◌/◌, ◌%◌, ◌^◌, ◌≤◌, ◌<◌, ◌≡◌, sym, ap, ap₂, ◌∙◌, ⊎_elim, List, [], ◌∷◌, ◌++◌, append_assoc, arith, add-one, pow-succ', zero-lt-suc, one-le-pow, length, get_or, length-append, slice, slice-cons, slice_empty, get_or-append_seam, lt-ltb, le-ltb}
use Rattle.numbers.proofs.Names.{Bytes, Step, ok, after, most_groups, groups, spelt, number, spell, never_ok, lt_or_le}
use Rattle.numbers.proofs.Inside.Groups.{one_less, over, last, more, by_group}

pub spelt_one : (g v : ℕ) → v < 128 → spelt (suc g) v ≡ v ∷ []
unfolding spelt
spelt_one g v h = simp (lt-ltb v 128 h)

pub spelt_more_lem : (g v : ℕ) → 128 ≤ v → spelt (suc g) v ≡ (128 + v % 128) ∷ spelt g (v / 128)
unfolding spelt
spelt_more_lem g v h = simp (le-ltb v 128 h)

-- of a number that was read: its bytes, and its bounds
pub record Spelled (g least : ℕ) (s : List ℕ) (at v n : ℕ) : Type 0 where
  pub some_bytes : at < n
  pub inside : n ≤ length s
  pub not_less : least ≤ v
  pub not_over : v < 128 ^ g
  pub spelling : slice at n s ≡ spelt g v

-- what is accepted is the spelling of its value
pub spelled : (g first least : ℕ) (s : List ℕ) → Bytes s → least ≤ 1 → (at v n : ℕ) → groups g first least s at ≡ ok v n → Spelled g least s at v n
spelled zero first least s bs l1 at v n e = absurd (never_ok (over 0 first least s at (omega arith)) e)
spelled (suc g) first least s bs l1 at v n e =
    by_group g first least s at e (λ h l b ev en. record {
      some_bytes = omega arith;
      inside = omega arith;
      not_less = omega arith;
      not_over = omega (arith, pow-succ' 128 g, one-le-pow g 128 (omega arith));
      spelling =
          slice-cons at n s 0 (omega arith) (omega arith) ∙ ap₂ (λ (x : ℕ) (m : ℕ). x ∷ slice m n s) ev (sym (add-one at) ∙ en)
          ∙ ap (λ (l : List ℕ). v ∷ l) (slice_empty n s) ∙ sym (spelt_one g v (omega arith));
    })
    (λ h b u e₁ ev.
    let r = spelled g first 1 s bs (omega arith) (at + 1) u n e₁ in
    let eb : get_or s at 0 ≡ 128 + v % 128 = omega (arith, bs at) in
    let eu : u ≡ v / 128 = omega (arith, bs at) in
    record {
      some_bytes = omega arith;
      inside = omega arith;
      not_less = omega arith;
      not_over = omega (arith, pow-succ' 128 g, bs at);
      spelling =
          slice-cons at n s 0 (omega arith) (omega arith) ∙ ap₂ (λ (x : ℕ) (m : ℕ). x ∷ slice m n s) eb (sym (add-one at))
          ∙ ap (λ (l : List ℕ). (128 + v % 128) ∷ l) (r.spelling ∙ ap (spelt g) eu) ∙ sym (spelt_more_lem g v (omega arith));
    })

-- ---- the other way: what is spelled is read back

-- the byte at a place, of a list that is cut there
at_cut : (p : List ℕ) (x : ℕ) (q s : List ℕ) (at : ℕ) → s ≡ p ++ (x ∷ q) → at ≡ length p → (at < length s) × (get_or s at 0 ≡ x)
at_cut p x q s at e h = (
  omega (arith, simp length-append at (ap length e)),
  ap₂ (λ (l : List ℕ) (i : ℕ). get_or l i 0) e h ∙ get_or-append_seam p x q 0,
)

-- a value of one group
back_one : (g first least : ℕ) (p q s : List ℕ) (at v : ℕ) → v < 128 → least ≤ v → s ≡ p ++ (spelt (suc g) v ++ q) → at ≡ length p
    → groups (suc g) first least s at ≡ ok v (at + length (spelt (suc g) v))
back_one g first least p q s at v h l e a =
    let cut = at_cut p v q s at (e ∙ ap (λ (x : List ℕ). p ++ (x ++ q)) (spelt_one g v h)) a in
    last (suc g) first least s at (zero-lt-suc g) cut.0 (omega arith) (omega arith)
    ∙ ap₂ (λ (x : ℕ) (n : ℕ). ok x n) cut.1 (ap (λ (k : List ℕ). at + length k) (sym (spelt_one g v h)))

pub read_back : (g first least : ℕ) (p q s : List ℕ) (at v : ℕ) → v < 128 ^ suc g → least ≤ v → s ≡ p ++ (spelt (suc g) v ++ q) → at ≡ length p
    → groups (suc g) first least s at ≡ ok v (at + length (spelt (suc g) v))
read_back zero first least p q s at v h l e a = back_one 0 first least p q s at v h l e a
read_back (suc g) first least p q s at v h l e a =
    ⊎_elim (λ b. back_one (suc g) first least p q s at v b l e a)
    (λ b.
    let d : ℕ = 128 + v % 128 in
    let rest : List ℕ = spelt (suc g) (v / 128) in
    let es : s ≡ p ++ (d ∷ (rest ++ q)) = e ∙ ap (λ (x : List ℕ). p ++ (x ++ q)) (spelt_more_lem (suc g) v b) in
    let cut = at_cut p d (rest ++ q) s at es a in
    let ih : groups (suc g) first 1 s (at + 1) ≡ ok (v / 128) (at + 1 + length rest) =
    read_back g first 1 (p ++ (d ∷ [])) q s (at + 1) (v / 128) (omega (arith, pow-succ' 128 (suc g))) (omega arith) (es ∙ sym (append_assoc p (d ∷ []) (rest ++ q))) (omega (arith, length-append p (d ∷ []))) in
    more (suc (suc g)) first least s at (zero-lt-suc (suc g)) cut.0 (omega (arith, cut.1))
    ∙ ap (λ (x : Step ℕ). after x (λ u m. ok (get_or s at 0 - 128 + 128 * u) m)) (ap (λ (k : ℕ). groups k first 1 s (at + 1)) (one_less (suc g)) ∙ ih)
    ∙ ap₂ (λ (x : ℕ) (n : ℕ). ok x n) (omega (arith, cut.1)) (omega (arith, ap length (spelt_more_lem (suc g) v b)))) (lt_or_le v 128)

-- ---- the law of a number: its one spelling
module _ (s : List ℕ) (at v : ℕ) where
  -- what is read at a place was spelled there
  pub number_spelled : (n : ℕ) → Bytes s → number s at ≡ ok v n → Spelled most_groups 0 s at v n
  number_spelled n bs e = spelled most_groups at 0 s bs (omega arith) at v n e

  -- a value that is spelled at a place is read there
  pub number_back : (p q : List ℕ) → v < 128 ^ most_groups → s ≡ p ++ (spell v ++ q) → at ≡ length p → number s at ≡ ok v (at + length (spell v))
  number_back p q h e a = read_back (most_groups - 1) at 0 p q s at v h (omega arith) e a
