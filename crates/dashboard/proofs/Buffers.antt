-- What a program hands on of the buffers that it lends: the part that was written is in the buffer, and is the whole text. Assumes nothing.
use Rattle.basis.specs.Prelude.{ℕ, ◌≤◌, ◌≡◌, List, arith, length, take, length-replicate}
use Rattle.dashboard.proofs.Names.{verdict_text, reference_text, written, text_size, text_buffer}
use Rattle.dashboard.proofs.TextLengths.{verdict_is_short, longest_fits, reference_is_short}
use Rattle.page.proofs.Inside.Written.{part_is_text}
pub use Rattle.page.proofs.Inside.Written.{written_in_room, written_part}

-- what a program prints is the whole text
module _ (after : List ℕ) (n : ℕ) where
  long_enough : (text : List ℕ) → length text ≤ text_size → length text ≤ length text_buffer
  long_enough text h = omega (arith, length-replicate {A = ℕ} text_size 0)

  pub verdict_is_printed : (s : List ℕ) → (after, n) ≡ written (verdict_text s) text_buffer → take n after ≡ verdict_text s
  verdict_is_printed s e = part_is_text (verdict_text s) text_buffer after n e (long_enough (verdict_text s) (omega (arith, verdict_is_short s, longest_fits)))

  pub reference_is_printed : (after, n) ≡ written reference_text text_buffer → take n after ≡ reference_text
  reference_is_printed e = part_is_text reference_text text_buffer after n e (long_enough reference_text reference_is_short)
