-- What `giachimu_verdict` answers at each way out: the text is whole in a buffer that has room for any, be it lent or the call's own, and is copied from its own where it fits. Assumes nothing.
use Rattle.basis.specs.Prelude.{ℕ, ◌≤◌, ◌<◌, min, ◌≡◌, ap, ◌∙◌, List, ◌++◌, arith, length, take, drop, take_all, le-leb, lt-leb}
use Rattle.dashboard.specs.Longest.{text_size, text_buffer}
use Rattle.exports.proofs.Names.{written, verdict_text, written_part, verdict_is_printed, verdict_in}
use Rattle.dashboard.proofs.TextLengths.{verdict_is_short, longest_fits}

-- a text that fits is written whole
fits_whole : (t buffer : List ℕ) → length t ≤ length buffer → (t ++ drop (length t) buffer, length t) ≡ written t buffer
unfolding written
fits_whole t buffer l = let m : min (length t) (length buffer) ≡ length t = omega arith in rw (take_all (length buffer) t l, m)

-- the text of s was written into a lent buffer that has room for any
pub text_is_written : (s text after : List ℕ) (n : ℕ) → (after, n) ≡ written (verdict_text s) text → text_size ≤ length text → (long : ℕ) (t : ℕ × ℕ) → t ≡ (0, 0) → (t, (after, n)) ≡ verdict_in s text long
unfolding verdict_in
text_is_written s text after n e room long t f = rw (le-leb (length (verdict_text s)) (length text) (omega (arith, verdict_is_short s, longest_fits)), f, e)

-- it was written into the first buffer, n bytes of it
module _ (s first whole : List ℕ) (n : ℕ) (b : first ≡ text_buffer) (e : (whole, n) ≡ written (verdict_text s) first) where
  part_is_text : take n whole ≡ verdict_text s
  part_is_text = verdict_is_printed whole n s (e ∙ ap (written (verdict_text s)) b)

  n_is_long : n ≡ length (verdict_text s)
  n_is_long = written_part (verdict_text s) first whole n e ∙ ap length part_is_text

  module _ (text : List ℕ) where
    module _ (long : ℕ) (t : ℕ × ℕ) where
      pub text_needs_room : length text < n → t ≡ (15, 0) → (t, (text, long)) ≡ verdict_in s text long
      unfolding verdict_in
      text_needs_room l f = rw (lt-leb (length (verdict_text s)) (length text) (omega (arith, n_is_long)), f)

      pub text_is_copied : (after : List ℕ) → n ≤ length text → after ≡ take n whole ++ drop n text → t ≡ (0, 0) → (t, (after, n)) ≡ verdict_in s text long
      unfolding verdict_in
      text_is_copied after l g f =
          let fits : length (verdict_text s) ≤ length text = omega (arith, n_is_long) in
          rw (le-leb (length (verdict_text s)) (length text) fits, ← fits_whole (verdict_text s) text fits, f, g, part_is_text, n_is_long)
