-- Whether every number of a list is zero from a place on. Assumes nothing.
use Rattle.basis.specs.Prelude.{ℕ, ◌+◌, ◌-◌, ◌≤◌, ◌<◌, ◌≡◌, refl, sym, ap, ◌∙◌, Bool, true, false, List, ◌++◌, ⊎_elim, length, get_or, drop, length-append, length-drop, get_or-append, get_or-append-add, get_or-drop, get_or-eq_default, arith, lt-ltb, le-ltb, eqb-true}
use Rattle.basis.specs.Words.{all_of}
use Rattle.basis.proofs.Inside.Words.{all_one_more}
use Rattle.machine.proofs.Names.{lt_or_le, all_at, all_true, true_not_false, not_so, number_at, zero_at, zero_from}

-- every number of a list is zero
abbrev pub Blank : List ℕ → Type 0
Blank l = (k : ℕ) → k < length l → get_or l k 0 ≡ 0

-- where a list is, its rest is, and where its first part is and the rest, it is
module _ (l x r : List ℕ) (is : l ≡ x ++ r) where
  pub blank_rest : Blank l → Blank r
  blank_rest b k i = sym (rw is (get_or-append-add x r k 0)) ∙ b (length x + k) (omega (arith, ap length is, length-append x r))

  pub blank_both : Blank x → Blank r → Blank l
  blank_both a b k i = ⊎_elim
      (λ m. rw is (get_or-append x r 0 k m) ∙ a k m)
      (λ m. let e : length x + (k - length x) ≡ k = omega arith in sym (ap (λ n. get_or l n 0) e) ∙ rw is (get_or-append-add x r (k - length x) 0) ∙ b (k - length x) (omega (arith, ap length is, length-append x r)))
      (lt_or_le k (length x))

-- a list whose numbers are all zero from a place on, and what it shows of each
pub all_zero : (from : ℕ) (l : List ℕ) → ((i : ℕ) → i < length l → from ≤ i → number_at l i ≡ 0) → zero_from from l ≡ true
unfolding zero_from zero_at
all_zero from l z = all_true (length l) (zero_at from l) (λ i b. ⊎_elim (λ a. rw (lt-ltb i from a)) (λ a. rw (le-ltb i from a, z i b a)) (lt_or_le i from))

pub each_zero : (from : ℕ) (l : List ℕ) → zero_from from l ≡ true → (i : ℕ) → from ≤ i → number_at l i ≡ 0
unfolding zero_from zero_at
each_zero from l e i a = ⊎_elim (λ b. eqb-true _ 0 (rw (le-ltb i from a) at (all_at (length l) (zero_at from l) e i b))) (λ b. get_or-eq_default l 0 {n = i} b) (lt_or_le i (length l))

-- what `is_zero` says of a list from a place on
module _ (from : ℕ) (l x : List ℕ) (is : x ≡ drop from l) where
  rest_long : length x ≡ length l - from
  rest_long = ap length is ∙ length-drop from l

  rest_at : (k : ℕ) → get_or x k 0 ≡ number_at l (from + k)
  rest_at k = rw is (get_or-drop from l k 0)

  pub zero_rest : (r : Bool) → (r ≡ true → Blank x) → (Blank x → r ≡ true) → r ≡ zero_from from l
  zero_rest true so back =
      sym (all_zero from l (λ i b a. let e : from + (i - from) ≡ i = omega arith in sym (ap (number_at l) e) ∙ sym (rest_at (i - from)) ∙ so refl (i - from) (omega (arith, rest_long))))
  zero_rest false so back = sym (not_so (zero_from from l) (λ e. true_not_false (sym (back (λ k b. rest_at k ∙ each_zero from l e (from + k) (omega arith))))))

-- a list whose last number is zero, as are the others from a place on
pub zero_last_lem : (from : ℕ) (l : List ℕ) (i : ℕ) → from ≤ i → true ≡ all_of i (zero_at from l) → length l ≤ i + 1 → i < length l → number_at l i ≡ 0 → true ≡ zero_from from l
unfolding zero_from zero_at
zero_last_lem from l i past so_far a b z =
    let e : i + 1 ≡ length l = omega arith in
    let one : true ≡ all_of (i + 1) (zero_at from l) = rw (all_one_more, sym so_far, le-ltb i from past, z) in
    rw e at one
