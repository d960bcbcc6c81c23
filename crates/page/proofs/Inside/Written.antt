-- The part of a buffer that a text was written into: it is in the buffer, and where there is room it is the whole text. Assumes nothing.
use Rattle.basis.specs.Prelude.{ℕ, ◌≤◌, min, ◌≡◌, refl, sym, ap, ◌∙◌, List, ◌++◌, arith, length, take, drop, length-append, length-take, length-drop, length-take-le, take_all, take_at}
use Rattle.page.specs.Pages.{Page, written}

-- a text that there is room for
pub whole_text : (text buffer : List ℕ) → length text ≤ length buffer → written text buffer ≡ (text ++ drop (length text) buffer, length text)
unfolding written
whole_text text buffer h = let m : min (length text) (length buffer) ≡ length text = omega arith in rw (take_all (length buffer) text h, m)

module _ (text buffer after : List ℕ) (n : ℕ) (e : (after, n) ≡ written text buffer) where
  pub written_in_room : n ≤ length after
  unfolding written
  written_in_room =
      let a : n ≡ min (length text) (length buffer) = ap (λ (p : Page). p.1) e in
      let b : length after ≡ length (take (length buffer) text ++ drop (length text) buffer) = ap (λ (p : Page). length p.0) e in
      omega (arith, simp (length-append, length-take, length-drop) at b)

  pub written_part : n ≡ length (take n after)
  written_part = sym (length-take-le n after written_in_room)

  -- the part of a buffer that the text fills is the text
  pub part_is_text : length text ≤ length buffer → take n after ≡ text
  part_is_text h = ap (λ (p : Page). take p.1 p.0) (e ∙ whole_text text buffer h) ∙ take_at text (drop (length text) buffer) (length text) refl
