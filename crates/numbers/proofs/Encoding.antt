-- The laws of a number: one encoding, its range, equal answers; and the worked numbers. Assumes nothing.
use Rattle.std.specs.Prelude.{Result, Ok, Err}
use Rattle.basis.specs.Prelude.{ℕ, ◌^◌, ◌<◌, ◌≡◌, refl, sym, ap, ap₂, ◌∙◌, Bool, true, false, List, length, take-length, eqb, leb}
use Rattle.basis.specs.Readers.{Step, give, refuse_at}
use Rattle.basis.specs.Words.{pick}
use Rattle.numbers.proofs.Names.{most_groups, Bytes, ok, refuse, step, number, up_to, up_to_by, step_by, step_as_told, ranged, InRange, UpTo}
use Rattle.basis.proofs.Same.{same_by}
use Rattle.basis.specs.Refusals.{told}
use Rattle.basis.specs.declared.refusal.Refusal.{Refusal}
use Rattle.basis.proofs.Refusals.{step_one_to_one}
use Rattle.numbers.proofs.OneSpelling.{number_spelled}

-- two byte strings that read as the same value, each to its end, are the same bytes
pub number_has_one_encoding : (s t : List ℕ) → Bytes s → Bytes t → (v : ℕ) → number s 0 ≡ ok v (length s) → number t 0 ≡ ok v (length t) → s ≡ t
number_has_one_encoding s t bs bt v e f =
    sym (take-length s) ∙ (number_spelled s 0 v (length s) bs e).spelling ∙ sym (number_spelled t 0 v (length t) bt f).spelling ∙ take-length t

-- what is read is below 128 to the power of the most groups
pub number_is_below : (s : List ℕ) (at v n : ℕ) → Bytes s → number s at ≡ ok v n → v < 128 ^ most_groups
number_is_below s at v n bs e = (number_spelled s at v n bs e).not_over

-- `read_number`
pub read_number_same : (s : List ℕ) (at : ℕ) (a b : Result (ℕ × ℕ) Refusal) → step a ≡ number s at → step b ≡ number s at → a ≡ b
read_number_same s at = same_by step step_one_to_one (number s at)

-- the same of a number in its range, refused by refusals
pub read_up_to_same : (most under beyond : ℕ) (s : List ℕ) (at : ℕ) (a b : Result (ℕ × ℕ) Refusal) → step a ≡ up_to most under beyond s at → step b ≡ up_to most under beyond s at → a ≡ b
read_up_to_same most under beyond s at = same_by step step_one_to_one (up_to most under beyond s at)

-- the range of a number by its errors is the range by their numbers, where both are told at its first byte
pub ranged_is : (most under beyond : ℕ) (s : List ℕ) (at : ℕ) → ranged most (under, at) (beyond, at) s at ≡ up_to most under beyond s at
unfolding up_to_by
ranged_is most under beyond s at = refl

-- an answer is its step, where an error is what it is told as
pub step_by_one_to_one : {E : Type 0} (tells : E → ℕ × ℕ) → ((a b : E) → tells a ≡ tells b → a ≡ b) → (a b : Result (ℕ × ℕ) E) → step_by tells a ≡ step_by tells b → a ≡ b
step_by_one_to_one tells one (Ok (v, m)) (Ok (w, n)) e = let x : v ≡ w = cc in let y : m ≡ n = cc in λ i. Ok (x i, y i)
step_by_one_to_one tells one (Ok a) (Err r) e = cc
step_by_one_to_one tells one (Err r) (Ok a) e = cc
step_by_one_to_one tells one (Err r) (Err s) e = let k : (tells r).0 ≡ (tells s).0 = cc in let p : (tells r).1 ≡ (tells s).1 = cc in ap Err (one r s (λ i. (k i, p i)))

-- so where it is its number and place
pub step_as_told_one_to_one : (a b : Result (ℕ × ℕ) (ℕ × ℕ)) → step_as_told a ≡ step_as_told b → a ≡ b
step_as_told_one_to_one = step_by_one_to_one (λ (e : ℕ × ℕ). e) (λ a b e. e)

-- `read_up_to`, whose errors are numbers and places
pub read_as_told_same : (most under beyond : ℕ) (s : List ℕ) (at : ℕ) (a b : Result (ℕ × ℕ) (ℕ × ℕ)) → step_as_told a ≡ up_to most under beyond s at
    → step_as_told b ≡ up_to most under beyond s at → a ≡ b
read_as_told_same most under beyond s at = same_by step_as_told step_as_told_one_to_one (up_to most under beyond s at)

-- `read_in_range`
pub read_in_range_same : (most : ℕ) (low high : Refusal) (s : List ℕ) (at : ℕ) (a b : Result (ℕ × ℕ) Refusal) → step a ≡ ranged most (told low) (told high) s at
    → step b ≡ ranged most (told low) (told high) s at → a ≡ b
read_in_range_same most low high s at = same_by step step_one_to_one (ranged most (told low) (told high) s at)

-- what is promised of errors of some type, for one way of telling them
module _ {E : Type 0} (makes : Refusal → E → Type 0) (tells : E → ℕ × ℕ) (agrees : (x : Refusal) (e : E) → makes x e → tells e ≡ told x) where
  -- however an error is told that tells refusals as the table does
  pub told_by : (most : ℕ) (low high : E) (s : List ℕ) (at : ℕ) (r : Result (ℕ × ℕ) E) → UpTo makes most low high s at r → step_by tells r ≡ ranged most (tells low) (tells high) s at
  told_by most low high s at r u = go (number s at) refl u
    where
      picked : (v n : ℕ) (t t' : Bool) → step_by tells (pick t (Err low) (pick t' (Ok (v, n)) (Err high)))
          ≡ pick t (refuse_at (tells low).0 (tells low).1) (pick t' (give v) (refuse_at (tells high).0 (tells high).1)) s n
      picked v n true t' = refl
      picked v n false true = refl
      picked v n false false = refl

      go : (x : Step ℕ) → number s at ≡ x → InRange makes most low high x r → step_by tells r ≡ ranged most (tells low) (tells high) s at
      go (ok v n) e f = rw (e, f) (picked v n (eqb v 0) (leb v most))
      go (refuse k p) e (x, er, t, m, f) = rw (e, f) (ap (λ (y : ℕ × ℕ). refuse y.0 y.1) (agrees x er m ∙ t))

  -- the range by the numbers that two errors are told by
  pub up_to_told : (most under beyond : ℕ) (s : List ℕ) (at : ℕ) (low high : E) (r : Result (ℕ × ℕ) E) → tells low ≡ (under, at) → tells high ≡ (beyond, at)
      → UpTo makes most low high s at r → step_by tells r ≡ up_to most under beyond s at
  up_to_told most under beyond s at low high r l h u =
      told_by most low high s at r u ∙ ap₂ (λ (x : ℕ × ℕ) (y : ℕ × ℕ). ranged most x y s at) l h ∙ ranged_is most under beyond s at

  -- where an error is what it is told as, two answers are equal
  pub up_to_same : (one : (a b : E) → tells a ≡ tells b → a ≡ b) (most : ℕ) (low high : E) (s : List ℕ) (at : ℕ) (a b : Result (ℕ × ℕ) E)
      → UpTo makes most low high s at a → UpTo makes most low high s at b → a ≡ b
  up_to_same one most low high s at a b u v = step_by_one_to_one tells one a b (told_by most low high s at a u ∙ sym (told_by most low high s at b v))

-- of the refusals themselves: the range by how they are told
pub ranged_step : (most : ℕ) (low high : Refusal) (s : List ℕ) (at : ℕ) (r : Result (ℕ × ℕ) Refusal) → UpTo (λ (x : Refusal) (e : Refusal). e ≡ x) most low high s at r
    → step r ≡ ranged most (told low) (told high) s at
ranged_step most low high s at r u = same_step r ∙ told_by (λ (x : Refusal) (e : Refusal). e ≡ x) told (λ x e q. ap told q) most low high s at r u
  where
    same_step : (r : Result (ℕ × ℕ) Refusal) → step r ≡ step_by told r
    same_step (Ok a) = refl
    same_step (Err r) = refl

-- and by the numbers that they are told by
pub up_to_step : (most under beyond : ℕ) (s : List ℕ) (at : ℕ) (low high : Refusal) (r : Result (ℕ × ℕ) Refusal) → told low ≡ (under, at) → told high ≡ (beyond, at)
    → UpTo (λ (x : Refusal) (e : Refusal). e ≡ x) most low high s at r → step r ≡ up_to most under beyond s at
up_to_step most under beyond s at low high r l h u =
    ranged_step most low high s at r u ∙ ap₂ (λ (x : ℕ × ℕ) (y : ℕ × ℕ). ranged most x y s at) l h ∙ ranged_is most under beyond s at
