-- Laws of a label's bytes: a turn of `plain` by the tests that the code makes, and what was read where it accepts. Assumes nothing.
use Rattle.basis.specs.Prelude.{ℕ, zero, suc, ◌+◌, ◌-◌, ◌≤◌, ◌<◌, ◌≡◌, sym, ap, ap₂, ◌∙◌, true, ⊎_elim, List, [], ◌∷◌, arith, add-one, length, get_or, take, drop, drop-cons, lt-ltb, le-leb, lt-leb}
use Rattle.reader.proofs.Names.{ok, refuse, map_step, byte, map_step_after, after_ok, ok_same, passed, byte_ok, lt_or_le, plain, is_plain, nothing}

-- the loop over a label's bytes, which has come from at to i: a turn by the tests that it makes, and its end
module _ (s : List ℕ) (at end i : ℕ) (long : end ≤ length s) (so_far : map_step nothing (plain (end - at) s at) ≡ map_step nothing (plain (end - i) s i)) where
  one_left : i < end → map_step nothing (plain (end - at) s at) ≡ map_step nothing (plain (suc (end - (i + 1))) s i)
  one_left h = so_far ∙ ap (λ (k : ℕ). map_step nothing (plain k s i)) (omega arith)

  pub plain_low : i < end → get_or s i 0 < 0x21 → refuse 6 i ≡ map_step nothing (plain (end - at) s at)
  unfolding plain map_step
  plain_low h b = sym (one_left h ∙ simp (lt-ltb i (length s) (omega arith), lt-leb _ _ b))

  pub plain_high : i < end → 0x21 ≤ get_or s i 0 → 0x7E < get_or s i 0 → refuse 6 i ≡ map_step nothing (plain (end - at) s at)
  unfolding plain map_step
  plain_high h a b = sym (one_left h ∙ simp (lt-ltb i (length s) (omega arith), le-leb _ _ a, lt-leb _ _ b))

  pub plain_more : i < end → 0x21 ≤ get_or s i 0 → get_or s i 0 ≤ 0x7E → map_step nothing (plain (end - at) s at) ≡ map_step nothing (plain (end - (i + 1)) s (i + 1))
  unfolding plain
  plain_more h a b =
      one_left h
      ∙ simp (lt-ltb i (length s) (omega arith), le-leb _ _ a, le-leb _ _ b) (map_step_after nothing (λ (bs : List ℕ). get_or s i 0 ∷ bs) (plain (end - (i + 1)) s (i + 1)))

  pub plain_all : end ≤ i → i ≤ end → ok tt end ≡ map_step nothing (plain (end - at) s at)
  unfolding plain map_step
  plain_all h l =
      let e : end - i ≡ 0 = omega arith in
      sym (so_far ∙ ap (λ (k : ℕ). map_step nothing (plain k s i)) e ∙ ap (ok tt) (omega arith))

-- the bytes that were read
pub record Plainly (s : List ℕ) (at k : ℕ) (bs : List ℕ) (n : ℕ) : Type 0 where
  pub next : n ≡ at + k
  pub long : length bs ≡ k
  pub bytes : bs ≡ take k (drop at s)
  pub plainly : (j : ℕ) → j < k → is_plain (get_or s (at + j) 0) ≡ true

pub plain_ok : (k : ℕ) (s : List ℕ) (at : ℕ) (bs : List ℕ) (n : ℕ) → plain k s at ≡ ok bs n → Plainly s at k bs n
unfolding plain
plain_ok zero s at bs n e =
    let eb : [] ≡ bs = cc in
    let en : at ≡ n = cc in
    record { next = omega arith; long = ap length (sym eb); bytes = sym eb; plainly = λ j h. absurd (omega arith) }
plain_ok (suc k) s at bs n e =
    after_ok (byte s at) _ e λ b m e₁ e₂.
    let (there, eb, em) = byte_ok s at b m e₁ in
    let (is, e') = passed _ 6 at s m (is_plain b) e₂ in
    after_ok (plain k s m) _ e' λ cs l e₃ e₄.
    let r = plain_ok k s m cs l e₃ in
    let (ec, el) = ok_same e₄ in
    record {
      next = omega (arith, r.next);
      long = ap length (sym ec) ∙ ap suc r.long;
      bytes =
          sym ec ∙ ap₂ (λ (x : ℕ) (l : List ℕ). x ∷ l) (sym eb) (r.bytes ∙ ap (λ (j : ℕ). take k (drop j s)) (sym em ∙ add-one at))
          ∙ ap (take (suc k)) (sym (drop-cons s at 0 there));
      plainly = λ j h.
          ⊎_elim (λ z. let e₀ : at + j ≡ at = omega arith in rw (e₀, eb) is)
          (λ z. let e₀ : at + j ≡ m + (j - 1) = omega arith in rw e₀ (r.plainly (j - 1) (omega arith))) (lt_or_le j 1);
    }
