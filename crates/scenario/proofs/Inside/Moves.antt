-- What a reader says of a window of the bytes it says of the bytes, its place so much further on. Assumes nothing.
use Rattle.basis.specs.Prelude.{ℕ, zero, ◌+◌, suc, ◌*◌, ◌-◌, ◌≤◌, ◌≡◌, refl, ap, ◌∙◌, ap₂, Bool, true, false, inl, List, inr, ⊎_elim, ◌++◌, arith, get_or-append, length, get_or, get_or-append-add, length-append, ltb, eqb, leb, lt-ltb, le-ltb}
use Rattle.scenario.proofs.Names.{lt_or_le, most_groups, Reader, Step, after, give, ok, refuse, refuse_at, pick, number, up_to, groups, up_to_by, row, Reaches, moved}
use Rattle.basis.proofs.Inside.Steps.{byte_ok}
use Rattle.basis.specs.Readers.{◌>>=◌, byte}

module _ (before w rest : List ℕ) where
  -- the bytes, and how far into them the window begins
  abbrev s : List ℕ
  s = before ++ (w ++ rest)

  abbrev d : ℕ
  d = length before

  pub reaches_less : (at b at' b' : ℕ) → at' + b' ≤ at + b → Reaches w rest at b → Reaches w rest at' b'
  reaches_less at b at' b' h = ⊎_elim inl (λ r. inr (omega arith))

  byte_moved : (at : ℕ) → Reaches w rest at 1 → byte s (d + at) ≡ moved d (byte w at)
  unfolding moved
  byte_moved at r =
      let long : length s ≡ d + (length w + length rest) = length-append before (w ++ rest) ∙ ap (λ (k : ℕ). d + k) (length-append w rest) in
      ⊎_elim
      (λ b.
      let same : get_or s (d + at) 0 ≡ get_or w at 0 = get_or-append-add before (w ++ rest) at 0 ∙ get_or-append w rest 0 at b in
      let next : d + at + 1 ≡ d + (at + 1) = omega arith in
      simp (lt-ltb (d + at) (length s) (omega arith), lt-ltb at (length w) b) (ap₂ (λ (x : ℕ) (n : ℕ). ok x n) same next))
      (λ b.
      let none : length rest ≡ 0 = ⊎_elim (λ e. ap length e) (λ q. absurd (omega arith)) r in
      let end : length s ≡ d + length w = omega arith in
      simp (le-ltb (d + at) (length s) (omega arith), le-ltb at (length w) b) (ap (refuse 2) end))
      (lt_or_le at (length w))

  -- one reader after another, and a choice
  after_moved : {A B : Type 0} (x : Step A) (f g : A → ℕ → Step B) → ((a : A) (n : ℕ) → x ≡ ok a n → f a (d + n) ≡ moved d (g a n)) → after (moved d x) f ≡ moved d (after x g)
  unfolding moved
  after_moved (ok a n) f g h = h a n refl
  after_moved (refuse k p) f g h = refl

  pub then_moved : {A B : Type 0} (r r' : Reader A) (f f' : A → Reader B) (at : ℕ) → r s (d + at) ≡ moved d (r' w at)
      → ((a : A) (n : ℕ) → r' w at ≡ ok a n → f a s (d + n) ≡ moved d (f' a w n)) → (r >>= f) s (d + at) ≡ moved d ((r' >>= f') w at)
  then_moved {A} r r' f f' at e h = ap (λ (x : Step A). after x (λ a n. f a s n)) e ∙ after_moved (r' w at) (λ a n. f a s n) (λ a n. f' a w n) h

  pick_moved : {A : Type 0} (t : Bool) (f g f' g' : Reader A) (at : ℕ) → f s (d + at) ≡ moved d (f' w at) → g s (d + at) ≡ moved d (g' w at) → pick t f g s (d + at) ≡ moved d (pick t f' g' w at)
  pick_moved true f g f' g' at h k = h
  pick_moved false f g f' g' at h k = k

  -- what follows the byte b of a number
  abbrev following : ℕ → ℕ → ℕ → ℕ → Reader ℕ
  following g first least b =
      pick (ltb b 128) (pick (ltb b least) (refuse_at 3 first) (give b)) (groups g first 1 >>= (λ v. give (b - 128 + 128 * v)))

  groups_moved : (g first least at : ℕ) → Reaches w rest at g → groups g (d + first) least s (d + at) ≡ moved d (groups g first least w at)
  unfolding groups moved
  groups_moved zero first least at r = refl
  groups_moved (suc g) first least at r =
      then_moved byte byte (following g (d + first) least) (following g first least) at (byte_moved at (reaches_less at (suc g) at 1 (omega arith) r)) λ b n e.
      let (_, _, next) = byte_ok w at b n e in
      pick_moved (ltb b 128) _ _ _ _ n (pick_moved (ltb b least) (refuse_at 3 (d + first)) (give b) (refuse_at 3 first) (give b) n refl refl)
      (then_moved (groups g (d + first) 1) (groups g first 1) (λ v. give (b - 128 + 128 * v)) (λ v. give (b - 128 + 128 * v)) n
      (groups_moved g first 1 n (reaches_less at (suc g) n g (omega arith) r)) λ v m q. refl)

  pub number_moved : (at : ℕ) → Reaches w rest at most_groups → number s (d + at) ≡ moved d (number w at)
  number_moved at = groups_moved most_groups at 0 at

  -- what follows the value v of a number in a range, and of a row
  abbrev ranged : ℕ → ℕ → ℕ → ℕ → ℕ → Reader ℕ
  ranged most under beyond first v = pick (eqb v 0) (refuse_at under first) (pick (leb v most) (give v) (refuse_at beyond first))

  abbrev ordered : ℕ → ℕ → ℕ → ℕ → Reader ℕ
  ordered n least place v = pick (ltb v n) (pick (ltb v least) (refuse_at 20 place) (give v)) (refuse_at 14 place)

  pub up_to_moved : (most under beyond at : ℕ) → Reaches w rest at most_groups → up_to most under beyond s (d + at) ≡ moved d (up_to most under beyond w at)
  unfolding up_to_by moved
  up_to_moved most under beyond at r =
      then_moved number number (ranged most under beyond (d + at)) (ranged most under beyond at) at (number_moved at r) λ v n e.
      pick_moved (eqb v 0) (refuse_at under (d + at)) _ (refuse_at under at) _ n refl
      (pick_moved (leb v most) (give v) (refuse_at beyond (d + at)) (give v) (refuse_at beyond at) n refl refl)

  pub row_moved : (n least at : ℕ) → Reaches w rest at most_groups → row n least s (d + at) ≡ moved d (row n least w at)
  unfolding row moved
  row_moved n least at r =
      then_moved number number (ordered n least (d + at)) (ordered n least at) at (number_moved at r) λ v m e.
      pick_moved (ltb v n) _ (refuse_at 14 (d + at)) _ (refuse_at 14 at) m
      (pick_moved (ltb v least) (refuse_at 20 (d + at)) (give v) (refuse_at 20 at) (give v) m refl refl) refl
