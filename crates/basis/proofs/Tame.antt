-- Tame readers: how far a reader goes and how far it looks, that its refusals are the table's, and that what it does not look at does not count. Assumes nothing.
use Rattle.basis.specs.Prelude.{ℕ, suc, ◌+◌, ◌≤◌, ◌<◌, ◌≡◌, refl, sym, ap, ap₂, ◌∙◌, Bool, true, false, List, [], ◌∷◌, arith, length, get_or, ltb, leb, eqb, lt-ltb, le-leb}
use Rattle.basis.specs.Words.{pick, both}
use Rattle.basis.specs.Readers.{Step, ok, refuse, Reader, after, ◌>>=◌, give, refuse_at, here, byte, enough, end, begins, marked}
use Rattle.basis.proofs.Inside.Steps.{never_ok, ok_same, refuse_same, after_ok, byte_ok, enough_ok, end_stays, marked_ok}
use Rattle.basis.proofs.Inside.Words.{both_right}

-- a refusal of the bytes s: a number from 1 to 9 and a place in them, which is 0 for 1 and the length for 2
pub record BytesRefusal (s : List ℕ) (number place : ℕ) : Type 0 where
  pub at_least : 1 ≤ number
  pub at_most : number ≤ 9
  pub inside : place ≤ length s
  pub one : number ≡ 1 → place ≡ 0
  pub two : number ≡ 2 → place ≡ length s

-- two inputs have l bytes or more, and the first l are the same
pub record Agree (l : ℕ) (s t : List ℕ) : Type 0 where
  pub left : l ≤ length s
  pub right : l ≤ length t
  pub same : (i : ℕ) → i < l → get_or s i 0 ≡ get_or t i 0

-- r looks at b bytes at most and goes on by c at most; it may refuse at the place o, too, that was passed before
pub record Tame {A : Type 0} (o : ℕ) (r : Reader A) (b c : ℕ) : Type 0 where
  pub ends : (s : List ℕ) (at : ℕ) (a : A) (n : ℕ) → at ≤ length s → r s at ≡ ok a n → (n ≤ at + c) × (n ≤ length s)
  pub refuses : (s : List ℕ) (at k p : ℕ) → o ≤ length s → at ≤ length s → r s at ≡ refuse k p → BytesRefusal s k p
  pub alike : (l : ℕ) (s t : List ℕ) → Agree l s t → (at : ℕ) → at + b ≤ l → r s at ≡ r t at

-- a number that is not 1 or 2, at a place in the bytes
pub bytes_refusal : (s : List ℕ) (k p : ℕ) → 3 ≤ k → k ≤ 9 → p ≤ length s → BytesRefusal s k p
bytes_refusal s k p a b c = record { at_least = omega arith; at_most = b; inside = c; one = λ e. absurd (omega arith); two = λ e. absurd (omega arith) }

-- the bytes end
pub bytes_end_refusal : (s : List ℕ) → BytesRefusal s 2 (length s)
bytes_end_refusal s = record { at_least = omega arith; at_most = omega arith; inside = omega arith; one = λ e. absurd (omega arith); two = λ e. refl }

pub bytes_refusal_as : (s : List ℕ) {k p j q : ℕ} → k ≡ j → p ≡ q → BytesRefusal s k p → BytesRefusal s j q
bytes_refusal_as s e f r = rw (← e, ← f) r

-- a step that is refused where a test fails
pub test_refusal : {A : Type 0} (s : List ℕ) (x : Step A) (t : Bool) (j q : ℕ) {k p : ℕ} → BytesRefusal s j q → (t ≡ true → x ≡ refuse k p → BytesRefusal s k p)
    → pick t x (refuse j q) ≡ refuse k p → BytesRefusal s k p
test_refusal s x true j q h f e = f refl e
test_refusal s x false j q h f e = let (a, b) = refuse_same e in bytes_refusal_as s a b h

pub tame_give : {A : Type 0} {o : ℕ} (a : A) → Tame o (give a) 0 0
tame_give a = record {
  ends = λ s at x n l e. let (_, en) = ok_same e in (omega arith, omega arith);
  refuses = λ s at k p h l e. absurd (never_ok e refl);
  alike = λ l s t h at k. refl;
}

pub tame_more : {A : Type 0} {o : ℕ} {r : Reader A} {b c : ℕ} (b' c' : ℕ) → b ≤ b' → c ≤ c' → Tame o r b c → Tame o r b' c'
tame_more b' c' h k T = record {
  ends = λ s at a n l e. let (x, y) = T.ends s at a n l e in (omega arith, y);
  refuses = T.refuses;
  alike = λ l s t g at j. T.alike l s t g at (omega arith);
}

-- a place that is passed, a refusal at it, and a choice
pub tame_here : {A : Type 0} {o b c : ℕ} (r : ℕ → Reader A) → ((p : ℕ) → Tame p (r p) b c) → Tame o (here >>= r) b c
tame_here r U = record { ends = λ s at. (U at).ends s at; refuses = λ s at k p h l. (U at).refuses s at k p l l; alike = λ l s t g at. (U at).alike l s t g at }

pub tame_refuse : {A : Type 0} (o k b c : ℕ) → 3 ≤ k → k ≤ 9 → Tame {A = A} o (refuse_at k o) b c
tame_refuse {A} o k b c low high = record {
  ends = λ s at a n l e. absurd (never_ok refl e);
  refuses = λ s at j p h l e. let (x, y) = refuse_same {A = A} e in bytes_refusal_as s x y (bytes_refusal s k o low high h);
  alike = λ l s t g at h. refl;
}

pub tame_pick : {A : Type 0} {o b c : ℕ} (t : Bool) (r q : Reader A) → Tame o r b c → Tame o q b c → Tame o (pick t r q) b c
tame_pick true r q T U = T
tame_pick false r q T U = U

-- one reader after another
module _ {A B : Type 0} (r : Reader A) (f : A → Reader B) {o b c b' c' : ℕ} (T : Tame o r b c)
    (U : (s : List ℕ) (at : ℕ) (a : A) (n : ℕ) → at ≤ length s → r s at ≡ ok a n → Tame o (f a) b' c') (h : b ≤ c + b') where
  then_refuses : (s : List ℕ) (at k p : ℕ) → o ≤ length s → at ≤ length s → (x : Step A) → r s at ≡ x → after x (λ a n. f a s n) ≡ refuse k p → BytesRefusal s k p
  then_refuses s at k p i l (ok a n) e q = (U s at a n l e).refuses s n k p i (T.ends s at a n l e).1 q
  then_refuses s at k p i l (refuse j z) e q = let (ek, ep) = refuse_same q in T.refuses s at k p i l (e ∙ ap₂ (λ (x : ℕ) (y : ℕ). refuse x y) ek ep)

  then_alike : (l : ℕ) (s t : List ℕ) → Agree l s t → (at : ℕ) → at + (c + b') ≤ l → (x : Step A) → r s at ≡ x → r t at ≡ x
      → after x (λ a n. f a s n) ≡ after x (λ a n. f a t n)
  then_alike l s t g at k (ok a n) e q =
      let i : at ≤ length s = omega (arith, g.left) in
      (U s at a n i e).alike l s t g n (omega (arith, (T.ends s at a n i e).0))
  then_alike l s t g at k (refuse j p) e q = refl

  pub tame_then : Tame o (r >>= f) (c + b') (c + c')
  tame_then = record {
    ends = λ s at z n l e.
        after_ok (r s at) _ e λ a m e₁ e₂.
        let (x, y) = T.ends s at a m l e₁ in
        let (u, v) = (U s at a m l e₁).ends s m z n y e₂ in
        (omega arith, v);
    refuses = λ s at k p i l e. then_refuses s at k p i l (r s at) refl e;
    alike = λ l s t g at k.
        let e : r s at ≡ r t at = T.alike l s t g at (omega arith) in
        then_alike l s t g at k (r s at) refl (sym e) ∙ ap (λ (x : Step A). after x (λ a n. f a t n)) e;
  }

pub tame_enough : {o : ℕ} (k : ℕ) → Tame o (enough k) k 0
tame_enough k = record {
  ends = λ s at u n l e. let (h, en) = enough_ok k s at u n e in (omega arith, omega arith);
  refuses = λ s at j p h l e. test_refusal s (ok tt at) (leb (at + k) (length s)) 2 (length s) (bytes_end_refusal s) (λ t q. absurd (never_ok q refl)) e;
  alike = λ l s t g at h. simp (le-leb (at + k) (length s) (omega (arith, g.left)), le-leb (at + k) (length t) (omega (arith, g.right)));
}

end_refuses : (s : List ℕ) (at k p : ℕ) → at ≤ length s → (t : Bool) → pick t (refuse 9 at) (ok (tt {0}) at) ≡ refuse k p → BytesRefusal s k p
end_refuses s at k p l true e = let (a, b) = refuse_same {A = Unit {0}} e in bytes_refusal_as s a b (bytes_refusal s 9 at (omega arith) (omega arith) l)
end_refuses s at k p l false e = absurd (never_ok e refl)

pub tame_end : {o : ℕ} → Tame o end 1 0
tame_end = record {
  ends = λ s at u n l e. let en = end_stays s at u n e in (omega arith, omega arith);
  refuses = λ s at k p h l e. end_refuses s at k p l (ltb at (length s)) e;
  alike = λ l s t g at h. simp (lt-ltb at (length s) (omega (arith, g.left)), lt-ltb at (length t) (omega (arith, g.right)));
}

-- a mark that is there is whole, and depends on its own bytes alone
pub begins_long : (bs s : List ℕ) → begins bs s ≡ true → length bs ≤ length s
unfolding begins
begins_long [] s e = omega arith
begins_long (b ∷ bs) [] e = let z : ◌≡◌ {A = ℕ} 0 1 = cc in absurd (omega arith)
begins_long (b ∷ bs) (x ∷ s) e = omega (arith, begins_long bs s (both_right (eqb x b) (begins bs s) e))

begins_alike : (bs s t : List ℕ) → length bs ≤ length s → length bs ≤ length t → ((i : ℕ) → i < length bs → get_or s i 0 ≡ get_or t i 0) → begins bs s ≡ begins bs t
unfolding begins
begins_alike [] s t h k e = refl
begins_alike (b ∷ bs) [] t h k e = absurd (omega arith)
begins_alike (b ∷ bs) (x ∷ s) [] h k e = absurd (omega arith)
begins_alike (b ∷ bs) (x ∷ s) (y ∷ t) h k e =
    ap₂ both (ap (λ (z : ℕ). eqb z b) (e 0 (omega arith))) (begins_alike bs s t (omega arith) (omega arith) (λ i l. e (suc i) (omega arith)))

pub tame_marked : {o : ℕ} (bs : List ℕ) → Tame o (marked bs) (length bs) (length bs)
tame_marked bs = record {
  ends = λ s at u n l e. let (is, en) = marked_ok bs s at u n e in (omega arith, omega (arith, begins_long bs s is));
  refuses = λ s at k p h l e. test_refusal s (ok tt (length bs)) (begins bs s) 1 0 (first s) (λ t q. absurd (never_ok q refl)) e;
  alike = λ l s t g at h.
      ap (λ (x : Bool). pick x (ok tt (length bs)) (refuse 1 0))
      (begins_alike bs s t (omega (arith, g.left)) (omega (arith, g.right)) (λ i k. g.same i (omega arith)));
}
  where
    first : (s : List ℕ) → BytesRefusal s 1 0
    first s = record { at_least = omega arith; at_most = omega arith; inside = omega arith; one = λ e. refl; two = λ e. absurd (omega arith) }

pub tame_byte : {o : ℕ} → Tame o byte 1 1
tame_byte = record {
  ends = λ s at b n l e. let (h, _, en) = byte_ok s at b n e in (omega arith, omega arith);
  refuses = λ s at k p h l e. test_refusal s (ok (get_or s at 0) (at + 1)) (ltb at (length s)) 2 (length s) (bytes_end_refusal s) (λ t q. absurd (never_ok q refl)) e;
  alike = λ l s t g at h. simp (lt-ltb at (length s) (omega (arith, g.left)), lt-ltb at (length t) (omega (arith, g.right)), g.same at (omega arith));
}

-- a byte that is tested, refused by j at its place, and followed by a reader
pub tame_tested : {A : Type 0} (test : ℕ → Bool) (r : ℕ → Reader A) (j : ℕ) {o b c : ℕ} → ((p x : ℕ) → Tame p (r x) b c) → 3 ≤ j → j ≤ 9
    → Tame o (here >>= (λ place. byte >>= (λ x. pick (test x) (r x) (refuse_at j place)))) (1 + b) (1 + c)
tame_tested test r j {b = b} {c = c} U low high = tame_here _ (λ p.
    tame_then byte _ tame_byte (λ s at x n l e. tame_pick (test x) (r x) (refuse_at j p) (U p x) (tame_refuse p j b c low high)) (omega arith))
