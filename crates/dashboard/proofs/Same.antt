-- Equal answers: two buffers, and two numbers of bytes, that a promise allows are the same. Assumes nothing.
use Rattle.basis.specs.Prelude.{ℕ, ◌≡◌, List}
use Rattle.basis.proofs.Same.{same, pair_same}
use Rattle.dashboard.proofs.Names.{verdict_text, reference_text, input_buffer, text_buffer, written}

module _ (buffer a b : List ℕ) (n m : ℕ) where
  -- `write_verdict`
  pub write_verdict_same : (s : List ℕ) → (a, n) ≡ written (verdict_text s) buffer → (b, m) ≡ written (verdict_text s) buffer → (a ≡ b) × (n ≡ m)
  write_verdict_same s = pair_same (written (verdict_text s) buffer) a b n m

  -- `write_reference`
  pub write_reference_same : (a, n) ≡ written reference_text buffer → (b, m) ≡ written reference_text buffer → (a ≡ b) × (n ≡ m)
  write_reference_same = pair_same (written reference_text buffer) a b n m

-- `input_buffer`
pub input_buffer_same : (a b : List ℕ) → a ≡ input_buffer → b ≡ input_buffer → a ≡ b
input_buffer_same = same input_buffer

-- `text_buffer`
pub text_buffer_same : (a b : List ℕ) → a ≡ text_buffer → b ≡ text_buffer → a ≡ b
text_buffer_same = same text_buffer
