-- Laws of `begins`: what comparing the front of the bytes with the mark says, and equal answers. Assumes nothing.
use Rattle.std.specs.Prelude.{◌&&◌}
use lib.Pointwise.{pointwise}
use Rattle.basis.specs.Words.{both}
use Rattle.basis.specs.Prelude.{[], refl, arith, eqb, take, ℕ, ◌≤◌, ◌<◌, ◌≡◌, List, ◌∷◌, Bool, true, false, length}
use Rattle.basis.proofs.Same.{same}
use Rattle.basis.specs.Readers.{begins}

-- bytes that are fewer than the mark's do not begin with it
pub begins_short : (m s : List ℕ) → length s < length m → false ≡ begins m s
unfolding begins
begins_short [] s h = absurd (omega arith)
begins_short (b ∷ bs) [] h = refl
begins_short (b ∷ bs) (x ∷ s) h = go (eqb x b) (begins_short bs s (omega arith))
  where
    go : (t : Bool) → false ≡ begins bs s → false ≡ both t (begins bs s)
    go true e = e
    go false e = refl

-- they begin with it where their front is the mark
pub begins_front : (m s : List ℕ) → length m ≤ length s → pointwise eqb (take (length m) s) m ≡ begins m s
unfolding begins
begins_front [] s h = refl
begins_front (b ∷ bs) [] h = absurd (omega arith)
begins_front (b ∷ bs) (x ∷ s) h = go (eqb x b) (begins_front bs s (omega arith))
  where
    go : (t : Bool) → pointwise eqb (take (length bs) s) bs ≡ begins bs s → (t && pointwise eqb (take (length bs) s) bs) ≡ both t (begins bs s)
    go true e = e
    go false e = refl

-- `begins_with`
pub begins_with_same : (m s : List ℕ) (a b : Bool) → a ≡ begins m s → b ≡ begins m s → a ≡ b
begins_with_same m s = same (begins m s)
