-- The bytes that a reader went over: from a place to a place, they are a list. So what is read is what would be written. Assumes nothing.
use Rattle.basis.specs.Prelude.{ℕ, ◌+◌, ◌≤◌, ◌≡◌, refl, sym, ap, ap₂, subst, ◌∙◌, true, List, [], ◌∷◌, ◌++◌, arith, length, take, drop, take-append-drop, slice, slice_empty, take-take, drop-append-le, length-take-le, take-add, drop_at, take-length, eqb, eqb-true}
use Rattle.basis.specs.Readers.{begins}
use Rattle.basis.proofs.Tame.{begins_long}
use Rattle.basis.proofs.Inside.Words.{both_left, both_right, true_not_false}
use Rattle.numbers.proofs.Names.{Bytes, ok, number, up_to, spell}
use Rattle.numbers.proofs.OneSpelling.{number_spelled}
use Rattle.numbers.proofs.Inside.Bounds.{bounded}

pub record Covers (s : List ℕ) (at n : ℕ) (bs : List ℕ) : Type 0 where
  pub forward : at ≤ n
  pub inside : n ≤ length s
  pub same : slice at n s ≡ bs

-- bytes that begin with a mark
begins_take : (bs s : List ℕ) → begins bs s ≡ true → take (length bs) s ≡ bs
unfolding begins
begins_take [] s e = refl
begins_take (b ∷ bs) [] e = true_not_false (sym e)
begins_take (b ∷ bs) (x ∷ s) e =
    ap₂ (λ (y : ℕ) (l : List ℕ). y ∷ l) (eqb-true x b (both_left (eqb x b) (begins bs s) e)) (begins_take bs s (both_right (eqb x b) (begins bs s) e))

pub covers_mark : (bs s : List ℕ) → begins bs s ≡ true → Covers s 0 (length bs) bs
covers_mark bs s e = record { forward = omega arith; inside = begins_long bs s e; same = begins_take bs s e }

module _ (s : List ℕ) where
  slice_join : (a b c : ℕ) → a ≤ b → b ≤ c → c ≤ length s → slice a b s ++ slice b c s ≡ slice a c s
  slice_join a b c h k l =
      let long : length (take b s) ≡ b = length-take-le b s (omega arith) in
      sym (ap (drop a) (sym (take-append-drop b (take c s)) ∙ ap (λ (x : List ℕ). x ++ slice b c s) (take-take b c s k))
      ∙ drop-append-le a (take b s) (slice b c s) (omega arith))

  -- one reader after another
  pub covers_then : {a b c : ℕ} {xs ys : List ℕ} → Covers s a b xs → Covers s b c ys → Covers s a c (xs ++ ys)
  covers_then {a} {b} {c} p q = record {
    forward = omega arith;
    inside = q.inside;
    same = sym (slice_join a b c p.forward q.forward q.inside) ∙ ap₂ (λ (x : List ℕ) (y : List ℕ). x ++ y) p.same q.same;
  }

  -- no byte
  pub covers_none : (at : ℕ) → at ≤ length s → Covers s at at []
  covers_none at h = record { forward = omega arith; inside = h; same = slice_empty at s }

  pub covers_as : {at n m : ℕ} {bs cs : List ℕ} → n ≡ m → bs ≡ cs → Covers s at n bs → Covers s at m cs
  covers_as {at} {n} {m} {bs} {cs} e f p = subst (λ (k : ℕ). Covers s at k cs) e (subst (λ (x : List ℕ). Covers s at n x) f p)

  -- a part of the bytes
  pub covers_part : (at k : ℕ) → at + k ≤ length s → Covers s at (at + k) (take k (drop at s))
  covers_part at k h = record {
    forward = omega arith;
    inside = h;
    same = ap (drop at) (take-add at k s) ∙ drop_at (take at s) (take k (drop at s)) at (length-take-le at s (omega arith));
  }

  -- all of them
  pub covers_all : {bs : List ℕ} {n : ℕ} → Covers s 0 n bs → length s ≤ n → s ≡ bs
  covers_all {bs} {n} p h =
      let e : n ≡ length s = omega (arith, p.inside) in
      sym (take-length s) ∙ ap (λ (k : ℕ). take k s) (sym e) ∙ p.same

  -- a number, and a number in a range
  pub covers_number : Bytes s → (at v n : ℕ) → number s at ≡ ok v n → Covers s at n (spell v)
  covers_number bytes at v n e =
      let r = number_spelled s at v n bytes e in
      record { forward = omega (arith, r.some_bytes); inside = r.inside; same = r.spelling }

  pub covers_up_to : Bytes s → (most under beyond at v n : ℕ) → up_to most under beyond s at ≡ ok v n → Covers s at n (spell v)
  covers_up_to bytes most under beyond at v n e = covers_number bytes at v n (bounded most under beyond s at v n e).read
