-- Laws of `groups`: a turn of it, by the tests that a reader makes; what a value scaled and added to is. Assumes nothing.
use Rattle.basis.specs.Prelude.{ℕ, zero, suc, ◌+◌, ◌-◌, ◌*◌, ◌^◌, ◌≤◌, ◌<◌, ◌≡◌, refl, sym, ap, ◌∙◌, add-one, ⊎_elim, List, arith, zero-lt-suc, not-suc-le-zero, mul_assoc, add-mul, mul-le-mul_left, mul-le-mul_right, one-le-pow, pow-succ', length, get_or, lt-ltb, le-ltb}
use Rattle.numbers.proofs.Names.{most_groups, Step, ok, refuse, after, groups, lt_or_le, never_ok, after_ok, ok_same}

pub one_less : (g : ℕ) → suc g - 1 ≡ g
one_less g = omega arith

-- a turn, by the tests on the way
pub ends : (g first least : ℕ) (s : List ℕ) (at : ℕ) → 0 < g → length s ≤ at → groups g first least s at ≡ refuse 2 (length s)
unfolding groups
ends zero first least s at pos h = absurd (not-suc-le-zero pos)
ends (suc g) first least s at pos h = simp (le-ltb at (length s) h)

pub low : (g first least : ℕ) (s : List ℕ) (at : ℕ) → 0 < g → at < length s → get_or s at 0 < 128 → get_or s at 0 < least
    → groups g first least s at ≡ refuse 3 first
unfolding groups
low zero first least s at pos h b l = absurd (not-suc-le-zero pos)
low (suc g) first least s at pos h b l = simp (lt-ltb _ _ h, lt-ltb _ _ b, lt-ltb _ _ l)

pub last : (g first least : ℕ) (s : List ℕ) (at : ℕ) → 0 < g → at < length s → get_or s at 0 < 128 → least ≤ get_or s at 0
    → groups g first least s at ≡ ok (get_or s at 0) (at + 1)
unfolding groups
last zero first least s at pos h b l = absurd (not-suc-le-zero pos)
last (suc g) first least s at pos h b l = simp (lt-ltb _ _ h, lt-ltb _ _ b, le-ltb _ _ l)

pub more : (g first least : ℕ) (s : List ℕ) (at : ℕ) → 0 < g → at < length s → 128 ≤ get_or s at 0
    → groups g first least s at ≡ after (groups (g - 1) first 1 s (at + 1)) (λ v n. ok (get_or s at 0 - 128 + 128 * v) n)
unfolding groups
more zero first least s at pos h b = absurd (not-suc-le-zero pos)
more (suc g) first least s at pos h b = simp (lt-ltb _ _ h, le-ltb _ _ b, one_less g)

pub over : (g first least : ℕ) (s : List ℕ) (at : ℕ) → g ≤ 0 → groups g first least s at ≡ refuse 3 first
unfolding groups
over zero first least s at none = refl
over (suc g) first least s at none = absurd (not-suc-le-zero none)

-- a number that was read: a last group, or one with more after it
pub by_group : {R : Type 0} (g first least : ℕ) (s : List ℕ) (at : ℕ) {v n : ℕ} → groups (suc g) first least s at ≡ ok v n
    → (at < length s → least ≤ get_or s at 0 → get_or s at 0 < 128 → get_or s at 0 ≡ v → at + 1 ≡ n → R)
    → (at < length s → 128 ≤ get_or s at 0 → (u : ℕ) → groups g first 1 s (at + 1) ≡ ok u n → get_or s at 0 - 128 + 128 * u ≡ v → R) → R
by_group g first least s at e f₁ f₂ =
    ⊎_elim (λ h. ⊎_elim (λ b. ⊎_elim (λ l. absurd (never_ok (low (suc g) first least s at (zero-lt-suc g) h b l) e))
    (λ l. let (ev, en) = ok_same (sym (last (suc g) first least s at (zero-lt-suc g) h b l) ∙ e) in f₁ h l b ev en) (lt_or_le (get_or s at 0) least))
    (λ b. after_ok (groups g first 1 s (at + 1)) _ (sym (simp one_less at (more (suc g) first least s at (zero-lt-suc g) h b)) ∙ e) λ u m e₁ e₂.
    let (ev, en) = ok_same e₂ in f₂ h b u (e₁ ∙ ap (ok u) en) ev) (lt_or_le (get_or s at 0) 128))
    (λ h. absurd (never_ok (ends (suc g) first least s at (zero-lt-suc g) h) e)) (lt_or_le at (length s))

-- what was read before, and the weight of what is still to be read
abbrev pub scaled : ℕ → ℕ → Step ℕ → Step ℕ
scaled v w (ok u n) = ok (v + u * w) n
scaled v w (refuse k p) = refuse k p

pub scaled_none : (x : Step ℕ) → x ≡ scaled 0 1 x
scaled_none (ok u n) = ap (λ (k : ℕ). ok k n) (omega arith)
scaled_none (refuse k p) = refl

scaled_more : (v w d : ℕ) (x : Step ℕ) → scaled v w (after x (λ u n. ok (d + 128 * u) n)) ≡ scaled (v + d * w) (w * 128) x
scaled_more v w d (ok u n) = ap (λ (k : ℕ). ok k n) (omega (arith, add-mul d (128 * u) w, mul_assoc 128 u w, mul_assoc u w 128))
scaled_more v w d (refuse k p) = refl

-- `read_number`: a turn of its loop, which has value so far, and its ends
module _ (value weight left first least i : ℕ) (s : List ℕ) (x : Step ℕ) (so_far : x ≡ scaled value weight (groups left first least s i)) where
  pub number_over : left ≤ 0 → refuse 3 first ≡ x
  number_over none = sym (so_far ∙ ap (scaled value weight) (over left first least s i none))

  module _ (pos : 0 < left) where
    pub number_ends : length s ≤ i → refuse 2 (length s) ≡ x
    number_ends h = sym (so_far ∙ ap (scaled value weight) (ends left first least s i pos h))

    module _ (h : i < length s) where
      pub number_low : get_or s i 0 < 128 → get_or s i 0 < least → refuse 3 first ≡ x
      number_low b l = sym (so_far ∙ ap (scaled value weight) (low left first least s i pos h b l))

      pub number_last : get_or s i 0 < 128 → least ≤ get_or s i 0 → ok (value + get_or s i 0 * weight) (i + 1) ≡ x
      number_last b l = sym (so_far ∙ ap (scaled value weight) (last left first least s i pos h b l))

      pub number_more : (k : ℕ) → left ≡ k + 1 → 128 ≤ get_or s i 0 → x ≡ scaled (value + (get_or s i 0 - 128) * weight) (weight * 128) (groups k first 1 s (i + 1))
      number_more k q b =
          let d = get_or s i 0 - 128 in
          let p : left - 1 ≡ k = omega arith in
          so_far ∙ ap (scaled value weight) (more left first least s i pos h b) ∙ scaled_more value weight d (groups (left - 1) first 1 s (i + 1))
          ∙ ap (λ (g : ℕ). scaled (value + d * weight) (weight * 128) (groups g first 1 s (i + 1))) p

-- one group more has room where the groups left have it
pub room_more : (w left k : ℕ) → left ≡ k + 1 → w * 128 * 128 ^ k ≡ w * 128 ^ left
room_more w left k q = mul_assoc w 128 (128 ^ k) ∙ ap (λ (e : ℕ). w * e) (sym (pow-succ' 128 k)) ∙ ap (λ (g : ℕ). w * 128 ^ g) (sym (add-one k) ∙ sym q)

room_one : (w left : ℕ) → 0 < left → w * 128 ≤ w * 128 ^ left
room_one w zero pos = absurd (not-suc-le-zero pos)
room_one w (suc left) pos = mul-le-mul_left w (omega (arith, pow-succ' 128 left, one-le-pow left 128 (omega arith)))

pub digit_room : (v w d : ℕ) → v < w → d < 128 → v + d * w < w * 128
digit_room v w d h l = let e : d * w ≤ 127 * w = mul-le-mul_right w (omega arith) in omega arith

-- so that a value with one group more is below the largest
pub digit_fits : (v w d left : ℕ) → v < w → d < 128 → 0 < left → w * 128 ^ left ≤ 128 ^ most_groups → (v + d * w < 128 ^ most_groups) × (w * 128 ≤ 128 ^ most_groups)
digit_fits v w d left h l pos room = omega (arith, digit_room v w d h l, room_one w left pos)
