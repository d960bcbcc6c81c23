-- The loops that measure and write a number: what was passed, and what is still to be written. Assumes nothing.
use Rattle.basis.specs.Prelude.{ℕ, zero, suc, ◌+◌, ◌/◌, ◌%◌, ◌≤◌, ◌<◌, ◌≡◌, refl, sym, ap, ◌∙◌, List, arith, add-one, add-zero, not-suc-le-zero, length, set, sets}
use Rattle.numbers.proofs.Names.{most_groups, spelt, spell, width}
use Rattle.numbers.proofs.OneSpelling.{spelt_one, spelt_more_lem}

-- i groups are passed and at most left more follow, of what is v now
pub record Measured (value v i left : ℕ) : Type 0 where
  pub few : i + left ≡ most_groups
  pub long : width value ≡ i + length (spelt left v)

pub measured_none : (value : ℕ) → Measured value value 0 most_groups
unfolding width
measured_none value = record { few = refl; long = omega arith }

module _ (value v i left : ℕ) (w : Measured value v i left) where
  pub measured_last : 0 < left → v < 128 → i + 1 ≡ width value
  measured_last pos h = go left pos w.long
    where
      go : (g : ℕ) → 0 < g → width value ≡ i + length (spelt g v) → i + 1 ≡ width value
      go zero p e = absurd (not-suc-le-zero p)
      go (suc g) p e = sym (e ∙ ap (λ (l : List ℕ). i + length l) (spelt_one g v h))

  pub measured_more : (k : ℕ) → left ≡ k + 1 → 128 ≤ v → Measured value (v / 128) (i + 1) k
  measured_more k q h =
      let e : width value ≡ i + length (spelt (suc k) v) = w.long ∙ ap (λ (g : ℕ). i + length (spelt g v)) (q ∙ add-one k) in
      record { few = omega (arith, w.few); long = omega (arith, ap length (spelt_more_lem k v h)) }

  pub measured_all : left ≤ 0 → most_groups ≡ width value
  unfolding spelt
  measured_all h = let z : left ≡ 0 = omega arith in sym (w.long ∙ ap (λ (g : ℕ). i + length (spelt g v)) z ∙ omega (arith, w.few))

-- the bytes of the groups passed are stored
abbrev pub Stored : List ℕ → ℕ → ℕ → List ℕ → ℕ → ℕ → ℕ → Type 0
Stored out₀ at value out v i left = sets out₀ at (spell value) ≡ sets out (at + i) (spelt left v)

pub stored_none : (out : List ℕ) (at value : ℕ) → Stored out at value out value 0 most_groups
stored_none out at value = ap (λ (k : ℕ). sets out k (spell value)) (sym (add-zero at))

module _ (out₀ : List ℕ) (at value : ℕ) (out : List ℕ) (v i left : ℕ) (w : Stored out₀ at value out v i left) where
  pub stored_last : 0 < left → v < 128 → (out' : List ℕ) → out' ≡ set out (at + i) v → out' ≡ sets out₀ at (spell value)
  stored_last pos h out' q = q ∙ sym (go left pos w)
    where
      go : (g : ℕ) → 0 < g → Stored out₀ at value out v i g → sets out₀ at (spell value) ≡ set out (at + i) v
      go zero p e = absurd (not-suc-le-zero p)
      go (suc g) p e = e ∙ ap (sets out (at + i)) (spelt_one g v h)

  pub stored_more : (k : ℕ) → left ≡ k + 1 → 128 ≤ v → (out' : List ℕ) → out' ≡ set out (at + i) (128 + v % 128) → Stored out₀ at value out' (v / 128) (i + 1) k
  stored_more k q h out' e =
      let n : suc (at + i) ≡ at + (i + 1) = omega arith in
      w ∙ ap (λ (g : ℕ). sets out (at + i) (spelt g v)) (q ∙ add-one k) ∙ ap (sets out (at + i)) (spelt_more_lem k v h)
      ∙ ap (λ (j : ℕ). sets (set out (at + i) (128 + v % 128)) j (spelt k (v / 128))) n
      ∙ ap (λ (l : List ℕ). sets l (at + (i + 1)) (spelt k (v / 128))) (sym e)

  pub stored_all : left ≤ 0 → out ≡ sets out₀ at (spell value)
  unfolding spelt
  stored_all h = let z : left ≡ 0 = omega arith in sym (w ∙ ap (λ (g : ℕ). sets out (at + i) (spelt g v)) z)
