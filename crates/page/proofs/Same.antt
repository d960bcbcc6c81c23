-- Equal answers: two buffers, and two places, that a promise allows are the same. Assumes nothing.
use Rattle.basis.specs.Prelude.{ℕ, ◌≡◌, List, [], ◌∷◌}
use Rattle.basis.proofs.Same.{pair_same}
use Rattle.page.specs.Pages.{said}
use Rattle.page.specs.Decimals.{decimal}

module _ (buffer : List ℕ) (at : ℕ) (a b : List ℕ) (i j : ℕ) where
  -- `put`
  pub put_same : (byte : ℕ) → (a, i) ≡ said (buffer, at) (byte ∷ []) → (b, j) ≡ said (buffer, at) (byte ∷ []) → (a ≡ b) × (i ≡ j)
  put_same byte = pair_same (said (buffer, at) (byte ∷ [])) a b i j

  -- `put_bytes`
  pub put_bytes_same : (bytes : List ℕ) → (a, i) ≡ said (buffer, at) bytes → (b, j) ≡ said (buffer, at) bytes → (a ≡ b) × (i ≡ j)
  put_bytes_same bytes = pair_same (said (buffer, at) bytes) a b i j

  -- `put_number`
  pub put_number_same : (n : ℕ) → (a, i) ≡ said (buffer, at) (decimal n) → (b, j) ≡ said (buffer, at) (decimal n) → (a ≡ b) × (i ≡ j)
  put_number_same n = pair_same (said (buffer, at) (decimal n)) a b i j
