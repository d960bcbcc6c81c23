-- One text said after another, the loop over bytes, and what the buffer is at last. Assumes nothing.
use Rattle.basis.specs.Prelude.{set, add-one, get_or, take-suc, ℕ, ◌+◌, ◌-◌, ◌≤◌, ◌<◌, min, ◌≡◌, refl, sym, ap, ◌∙◌, List, [], ◌∷◌, ◌++◌, append-nil, append_assoc, arith, length, take, drop, length-append, set-append_seam, append_snoc, take-append-drop, drop_of_length-le, ⊎_elim, take-nil, drop-nil, lt-ltb, le-ltb}
use Rattle.basis.proofs.Inside.Words.{lt_or_le}
use Rattle.page.specs.Pages.{Page, written, put_one, said}

pair : {a a' : List ℕ} {b b' : ℕ} → a ≡ a' → b ≡ b' → ◌≡◌ {A = Page} (a, b) (a', b')
pair e f = rw (e, f)

-- said one after another is said at once
said_append : (p : Page) (x y : List ℕ) → said p (x ++ y) ≡ said (said p x) y
unfolding said
said_append p [] y = refl
said_append p (b ∷ x) y = said_append (put_one p b) x y

pub two_said : (p₀ p₁ p₂ : Page) (x y : List ℕ) → p₁ ≡ said p₀ x → p₂ ≡ said p₁ y → p₂ ≡ said p₀ (x ++ y)
two_said p₀ p₁ p₂ x y e f = f ∙ ap (λ (z : Page). said z y) e ∙ sym (said_append p₀ x y)

pub three_said : (p₀ p₁ p₂ p₃ : Page) (x y z : List ℕ) → p₁ ≡ said p₀ x → p₂ ≡ said p₁ y → p₃ ≡ said p₂ z → p₃ ≡ said p₀ (x ++ y ++ z)
three_said p₀ p₁ p₂ p₃ x y z e f g = two_said p₀ p₂ p₃ (x ++ y) z (two_said p₀ p₁ p₂ x y e f) g

pub four_said : (p₀ p₁ p₂ p₃ p₄ : Page) (x y z w : List ℕ) → p₁ ≡ said p₀ x → p₂ ≡ said p₁ y → p₃ ≡ said p₂ z → p₄ ≡ said p₃ w → p₄ ≡ said p₀ (x ++ y ++ z ++ w)
four_said p₀ p₁ p₂ p₃ p₄ x y z w e f g h = two_said p₀ p₃ p₄ (x ++ y ++ z) w (three_said p₀ p₁ p₂ p₃ x y z e f g) h

-- `put_bytes`: past the end nothing is said
pub none_said : (l s : List ℕ) (at : ℕ) → length l ≤ at → ◌≡◌ {A = Page} (l, at) (said (l, at) s)
unfolding said put_one
none_said l [] at h = refl
none_said l (b ∷ s) at h = simp (le-ltb at (length l) h) (none_said l s at h)

-- before it a byte more, and at last all of the bytes or as many as there is room for
module _ (l₀ s l : List ℕ) (at i : ℕ) (so_far : ◌≡◌ {A = Page} (l, at + i) (said (l₀, at) (take i s))) where
  pub byte_said : at + i < length l → i < length s → ◌≡◌ {A = Page} (set l (at + i) (get_or s i 0), at + (i + 1)) (said (l₀, at) (take (i + 1) s))
  unfolding said put_one
  byte_said r h =
      let one : ◌≡◌ {A = Page} (set l (at + i) (get_or s i 0), at + (i + 1)) (said (l, at + i) (get_or s i 0 ∷ [])) = simp (lt-ltb _ _ r) (pair refl (omega arith)) in
      let more : take (i + 1) s ≡ take i s ++ (get_or s i 0 ∷ []) = rw (add-one, take-suc s i 0) in
      rw more (two_said (l₀, at) (l, at + i) (set l (at + i) (get_or s i 0), at + (i + 1)) (take i s) (get_or s i 0 ∷ []) so_far one)

  pub some_said : (n : ℕ) → length l ≡ length l₀ → n ≡ min (length s) (length l₀ - at) → i ≤ n → n ≤ i → ◌≡◌ {A = Page} (l, at + n) (said (l₀, at) s)
  unfolding said
  some_said n long e a b =
      let none : ◌≡◌ {A = Page} (l, at + i) (said (l, at + i) (drop i s)) =
      ⊎_elim (λ r. let z : drop i s ≡ [] = drop_of_length-le s (omega arith) in rw z) (λ r. none_said l (drop i s) (at + i) r) (lt_or_le (at + i) (length l)) in
      let m : n ≡ i = omega arith in
      rw m (two_said (l₀, at) (l, at + i) (l, at + i) (take i s) (drop i s) so_far none ∙ rw take-append-drop)

-- ---- said from the end of x on

put_room : (b : ℕ) (x : List ℕ) (a : ℕ) (y : List ℕ) → put_one (x ++ (a ∷ y), length x) b ≡ (x ++ (b ∷ []) ++ y, length (x ++ (b ∷ [])))
unfolding put_one
put_room b x a y =
    let h : length x < length (x ++ (a ∷ y)) = rw length-append (omega arith) in
    simp (lt-ltb _ _ h) (pair (set-append_seam x a y b ∙ sym (append_snoc x b y)) (sym (length-append x (b ∷ []))))

put_full : (b : ℕ) (x : List ℕ) → put_one (x ++ [], length x) b ≡ (x ++ [], length x)
unfolding put_one
put_full b x = let h : length (x ++ []) ≤ length x = rw append-nil (omega arith) in simp (le-ltb _ _ h)

said_at : (t x y : List ℕ) → said (x ++ y, length x) t ≡ (x ++ (take (length y) t ++ drop (length t) y), length x + min (length t) (length y))
unfolding said
said_at [] x y = pair (simp take-nil) (omega arith)
said_at (b ∷ t) x [] = ap (λ (p : Page). said p t) (put_full b x) ∙ said_at t x [] ∙ pair (simp drop-nil) (omega arith)
said_at (b ∷ t) x (a ∷ y) =
    ap (λ (p : Page). said p t) (put_room b x a y) ∙ said_at t (x ++ (b ∷ [])) y
    ∙ pair (append_assoc x (b ∷ []) (take (length y) t ++ drop (length t) y)) (omega (arith, length-append x (b ∷ [])))

-- what is said from the start is written
pub said_is_written : (q : Page) (text buffer : List ℕ) → q ≡ said (buffer, 0) text → q ≡ written text buffer
unfolding written
said_is_written q text buffer e = e ∙ said_at text [] buffer ∙ pair refl (omega arith)
