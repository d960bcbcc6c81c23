-- What is written is read back: a reader reads some bytes as a value, wherever they stand. Assumes nothing.
use Rattle.basis.specs.Prelude.{ℕ, ◌+◌, ◌^◌, ◌≤◌, ◌<◌, ◌≡◌, refl, sym, ap, ap₂, ◌∙◌, List, [], ◌++◌, append_assoc, arith, add-zero, length, length-append, ne_eqb, le-leb}
use Rattle.basis.specs.Readers.{Reader}
use Rattle.numbers.proofs.Names.{most_groups, Step, ok, after, ◌>>=◌, give, up_to_by, number, up_to, spell}
use Rattle.numbers.proofs.OneSpelling.{number_back}

pub record Reads {A : Type 0} (r : Reader A) (bs : List ℕ) (a : A) : Type 0 where
  pub back : (p q : List ℕ) → r (p ++ (bs ++ q)) (length p) ≡ ok a (length p + length bs)

-- at a place of a list that is cut there
pub at_place : {A : Type 0} {r : Reader A} {bs : List ℕ} {a : A} → Reads r bs a → (s p q : List ℕ) (n : ℕ) → s ≡ p ++ (bs ++ q) → n ≡ length p
    → r s n ≡ ok a (n + length bs)
at_place {A} {r} {bs} {a} h s p q n e l = ap₂ (λ (x : List ℕ) (k : ℕ). r x k) e l ∙ h.back p q ∙ ap (λ (k : ℕ). ok a (k + length bs)) (sym l)

-- nothing
pub reads_give : {A : Type 0} (a : A) → Reads (give a) [] a
reads_give a = record { back = λ p q. ap (ok a) (sym (add-zero (length p))) }

-- one reader after another
pub reads_then : {A B : Type 0} (r : Reader A) (f : A → Reader B) {a : A} {b : B} {xs ys : List ℕ} → Reads r xs a → Reads (f a) ys b
    → Reads (r >>= f) (xs ++ ys) b
reads_then {A} {B} r f {a} {b} {xs} {ys} h k = record {
  back = λ p q.
      let s : List ℕ = p ++ ((xs ++ ys) ++ q) in
      let cut : s ≡ p ++ (xs ++ (ys ++ q)) = ap (λ (x : List ℕ). p ++ x) (append_assoc xs ys q) in
      let e₁ : r s (length p) ≡ ok a (length p + length xs) = at_place h s p (ys ++ q) (length p) cut refl in
      let e₂ : f a s (length p + length xs) ≡ ok b (length p + length xs + length ys) =
      at_place k s (p ++ xs) q (length p + length xs) (cut ∙ sym (append_assoc p xs (ys ++ q))) (sym (length-append p xs)) in
      ap (λ (x : Step A). after x (λ c n. f c s n)) e₁ ∙ e₂ ∙ ap (ok b) (omega (arith, length-append xs ys));
}

-- a number
pub reads_number : (v : ℕ) → v < 128 ^ most_groups → Reads number (spell v) v
reads_number v h = record { back = λ p q. number_back (p ++ (spell v ++ q)) (length p) v p q h refl refl }

-- a number in a range
pub reads_up_to : (most under beyond v : ℕ) → v < 128 ^ most_groups → 0 < v → v ≤ most → Reads (up_to most under beyond) (spell v) v
unfolding up_to_by
reads_up_to most under beyond v h pos le = record { back = λ p q. simp ((reads_number v h).back p q, ne_eqb v 0 (λ z. omega arith), le-leb v most le) }

-- and at the end a value of what was read
pub reads_end : {A B : Type 0} (r : Reader A) (g : A → B) {a : A} {xs : List ℕ} → Reads r xs a → Reads (r >>= (λ x. give (g x))) xs (g a)
reads_end {A} {B} r g {a} {xs} h = record { back = λ p q. ap (λ (x : Step A). after x (λ c n. ok (g c) n)) (h.back p q) }
