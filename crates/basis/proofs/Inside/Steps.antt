-- Laws of steps: what is known where readers that follow each other accept, and of a step with what a function makes of its value. Assumes nothing.
use Rattle.basis.specs.Prelude.{ℕ, ◌+◌, ◌≤◌, ◌<◌, ◌≡◌, refl, sym, ap, ap₂, ◌∙◌, Bool, true, false, List, arith, length, get_or, ltb, leb, ltb-true, ltb-false, leb-true}
use Rattle.basis.specs.Words.{pick}
use Rattle.basis.specs.Readers.{Step, ok, refuse, Reader, after, refuse_at, byte, enough, end, begins, marked, map_step}

-- an accepted step and a refused one differ
pub never_ok : {A : Type 0} {k p n : ℕ} {a : A} {x : Step A} → x ≡ refuse k p → x ≡ ok a n → ⊥
never_ok p q = let z : ◌≡◌ {A = ℕ} 0 1 = cc in omega arith

-- what two accepted steps say where they are one
pub ok_same : {A : Type 0} {a b : A} {n m : ℕ} → ok a n ≡ ok b m → (a ≡ b) × (n ≡ m)
ok_same e = (cc, cc)

-- and what two refused ones say
pub refuse_same : {A : Type 0} {k p j q : ℕ} → ◌≡◌ {A = Step A} (refuse k p) (refuse j q) → (k ≡ j) × (p ≡ q)
refuse_same e = (cc, cc)

-- where readers that follow each other accept, each accepts
pub after_ok : {A B R : Type 0} (x : Step A) (f : A → ℕ → Step B) {b : B} {n : ℕ} → after x f ≡ ok b n → ((a : A) (m : ℕ) → x ≡ ok a m → f a m ≡ ok b n → R) → R
after_ok (ok a m) f e k = k a m refl e
after_ok (refuse j p) f e k = absurd (never_ok refl e)

-- where they refuse, the first does, or it accepts and the second does
pub after_no : {A B R : Type 0} (x : Step A) (f : A → ℕ → Step B) {k p : ℕ} → after x f ≡ refuse k p → (x ≡ refuse k p → R) → ((a : A) (n : ℕ) → x ≡ ok a n → f a n ≡ refuse k p → R) → R
after_no (ok a n) f e first second = second a n refl e
after_no (refuse j q) f e first second = let (a, b) = refuse_same e in first (ap₂ (λ (x : ℕ) (y : ℕ). refuse x y) a b)

-- where a test stands before a refusal, or after it, the test says so
module _ {A : Type 0} (r : Reader A) (k p : ℕ) (s : List ℕ) (at : ℕ) {a : A} {n : ℕ} where
  pub passed : (t : Bool) → pick t r (refuse_at k p) s at ≡ ok a n → (t ≡ true) × (r s at ≡ ok a n)
  passed true e = (refl, e)
  passed false e = absurd (never_ok refl e)

  pub not_stopped : (t : Bool) → pick t (refuse_at k p) r s at ≡ ok a n → (t ≡ false) × (r s at ≡ ok a n)
  not_stopped true e = absurd (never_ok refl e)
  not_stopped false e = (refl, e)

-- the same of steps
module _ {A : Type 0} (x : Step A) (k p : ℕ) {a : A} {n : ℕ} where
  pub step_passed : (t : Bool) → pick t x (refuse k p) ≡ ok a n → (t ≡ true) × (x ≡ ok a n)
  step_passed true e = (refl, e)
  step_passed false e = absurd (never_ok refl e)

  pub step_not_stopped : (t : Bool) → pick t (refuse k p) x ≡ ok a n → (t ≡ false) × (x ≡ ok a n)
  step_not_stopped true e = absurd (never_ok refl e)
  step_not_stopped false e = (refl, e)

pub byte_ok : (s : List ℕ) (at b n : ℕ) → byte s at ≡ ok b n → (at < length s) × (get_or s at 0 ≡ b) × (at + 1 ≡ n)
byte_ok s at b n e =
    let (t, e₁) = step_passed (ok (get_or s at 0) (at + 1)) 2 (length s) (ltb at (length s)) e in
    (ltb-true at (length s) t, cc, cc)

pub enough_ok : (k : ℕ) (s : List ℕ) (at : ℕ) (u : Unit {0}) (n : ℕ) → enough k s at ≡ ok u n → (at + k ≤ length s) × (at ≡ n)
enough_ok k s at u n e =
    let (t, e₁) = step_passed (ok tt at) 2 (length s) (leb (at + k) (length s)) e in
    (leb-true (at + k) (length s) t, cc)

pub end_ok : (s : List ℕ) (at : ℕ) (u : Unit {0}) (n : ℕ) → end s at ≡ ok u n → length s ≤ at
end_ok s at u n e =
    let (t, _) = step_not_stopped (ok tt at) 9 at (ltb at (length s)) e in
    ltb-false at (length s) t

pub end_stays : (s : List ℕ) (at : ℕ) (u : Unit {0}) (n : ℕ) → end s at ≡ ok u n → at ≡ n
end_stays s at u n e = (ok_same (step_not_stopped (ok tt at) 9 at (ltb at (length s)) e).1).1

pub marked_ok : (bs s : List ℕ) (at : ℕ) (u : Unit {0}) (n : ℕ) → marked bs s at ≡ ok u n → (begins bs s ≡ true) × (length bs ≡ n)
marked_ok bs s at u n e =
    let (t, e₁) = step_passed (ok tt (length bs)) 1 0 (begins bs s) e in
    (t, cc)

-- what a call answered, where its promise gives the step that it answers and a match has told which answer it was
pub got : {R A : Type 0} (f : R → Step A) {r r' : R} {x : Step A} → f r ≡ x → r ≡ r' → x ≡ f r'
got f e q = sym e ∙ ap f q

-- what such a step says of the first
pub map_step_ok : {A B : Type 0} (f : A → B) (x : Step A) {b : B} {n : ℕ} → map_step f x ≡ ok b n → (a : A) × (x ≡ ok a n) × (f a ≡ b)
unfolding map_step
map_step_ok f (ok a m) e = (a, cc, cc)
map_step_ok f (refuse k p) e = absurd (never_ok refl e)

pub map_step_no : {A B : Type 0} (f : A → B) (x : Step A) {k p : ℕ} → map_step f x ≡ refuse k p → x ≡ refuse k p
unfolding map_step
map_step_no f (ok a m) e = absurd (never_ok e refl)
map_step_no f (refuse j q) e = let (ek, ep) = refuse_same e in cc

-- two functions, one after the other
pub map_step_after : {A B C : Type 0} (f : A → B) (g : C → A) (x : Step C) → map_step f (after x (λ c n. ok (g c) n)) ≡ map_step (λ (c : C). f (g c)) x
unfolding map_step
map_step_after f g (ok c n) = refl
map_step_after f g (refuse k p) = refl
