-- How many bytes the entries of a slot take, one after another. Assumes nothing.
use mir.Val.{bool_byte}
use Rattle.std.proofs.lemmas.List.Recursion.{is_count_by}
use Rattle.std.proofs.lemmas.List.Sums.{count_by_more_no, count_by_more_yes}
use Rattle.std.specs.Prelude.{count_by}
use Rattle.basis.specs.Prelude.{ℕ, suc, ◌+◌, ◌≤◌, ◌<◌, ◌≡◌, refl, sym, ap, ap₂, ◌∙◌, Bool, true, List, false, [], ◌∷◌, ◌++◌, append-nil, append_assoc, arith, add-one, length, get_or, add-zero, take, length-append, length-take-le, take-suc, eqb, cond, not, eq-eqb, ne_eqb}
use Rattle.scenario.proofs.Names.{most_groups, pick, spell, width, entry_bytes, releases_bytes, releases_in, slot_bytes}
use Rattle.scenario.proofs.Inside.OneSlot.{spelt_few}

pub width_few : (v : ℕ) → width v ≤ most_groups
unfolding width
width_few v = spelt_few most_groups v

-- the entries of two parts
pub releases_both : (i : ℕ) (xs ys : List ℕ) → releases_bytes i (xs ++ ys) ≡ releases_bytes i xs ++ releases_bytes (i + length xs) ys
unfolding releases_bytes
releases_both i [] ys = ap (λ (k : ℕ). releases_bytes k ys) (sym (add-zero i))
releases_both i (v ∷ xs) ys =
    let e : suc i + length xs ≡ i + suc (length xs) = omega arith in
    let ih : releases_bytes (suc i) (xs ++ ys) ≡ releases_bytes (suc i) xs ++ releases_bytes (i + suc (length xs)) ys = releases_both (suc i) xs ys ∙ ap (λ (k : ℕ). releases_bytes (suc i) xs ++ releases_bytes k ys) e in
    go (eqb v 0) (releases_bytes (suc i) (xs ++ ys)) (releases_bytes (suc i) xs) (releases_bytes (i + suc (length xs)) ys) ih
  where
    go : (t : Bool) (both first second : List ℕ) → both ≡ first ++ second → pick t both (spell i ++ (spell v ++ both)) ≡ pick t first (spell i ++ (spell v ++ first)) ++ second
    go true both first second q = q
    go false both first second q =
        ap (λ (x : List ℕ). spell i ++ (spell v ++ x)) q
        ∙ ap (λ (x : List ℕ). spell i ++ x) (sym (append_assoc (spell v) first second))
        ∙ sym (append_assoc (spell i) (spell v ++ first) second)

releases_one : (i v : ℕ) → releases_bytes i (v ∷ []) ≡ entry_bytes i v
unfolding releases_bytes entry_bytes
releases_one i v = ap (λ (x : List ℕ). pick (eqb v 0) [] (spell i ++ x)) (append-nil (spell v))

-- one entry more
pub bytes_more : (l : List ℕ) (i : ℕ) → i < length l → releases_bytes 0 (take (i + 1) l) ≡ releases_bytes 0 (take i l) ++ entry_bytes i (get_or l i 0)
bytes_more l i b =
    let e : 0 + length (take i l) ≡ i = omega (arith, length-take-le i l (omega arith)) in
    ap (releases_bytes 0) (ap (λ (k : ℕ). take k l) (add-one i) ∙ take-suc l i 0 b)
    ∙ releases_both 0 (take i l) (get_or l i 0 ∷ [])
    ∙ ap (λ (k : ℕ). releases_bytes 0 (take i l) ++ releases_bytes k (get_or l i 0 ∷ [])) e
    ∙ ap (λ (x : List ℕ). releases_bytes 0 (take i l) ++ x) (releases_one i (get_or l i 0))

-- `count_releases`
abbrev pub released_of : List ℕ → ℕ
released_of l = count_by (λ v. not (eqb v 0)) l

pub released_count : (l : List ℕ) → released_of l ≡ releases_in l
unfolding releases_in
released_count l = sym (is_count_by releases_in (λ v. not (eqb v 0)) refl (λ v l. go (eqb v 0) (releases_in l)) l)
  where
    go : (t : Bool) (n : ℕ) → pick t n (suc n) ≡ cond (not t) (1 + n) n
    go true n = refl
    go false n = omega arith

pub released_one : (l : List ℕ) (i count r : ℕ) → i < length l → (count ≤ i) × (count ≡ released_of (take i l)) → r ≡ bool_byte (not (eqb (get_or l i 0) 0))
    → (count + r ≤ i + 1) × (count + r ≡ released_of (take (i + 1) l))
released_one l i count r b (few, e) f = go (not (eqb (get_or l i 0) 0)) refl f
  where
    go : (t : Bool) → not (eqb (get_or l i 0) 0) ≡ t → r ≡ bool_byte t → (count + r ≤ i + 1) × (count + r ≡ released_of (take (i + 1) l))
    go true g q = (omega arith, omega (arith, e, q, count_by_more_yes (λ (v : ℕ). not (eqb v 0)) l i 0 b g))
    go false g q = (omega arith, omega (arith, e, q, count_by_more_no (λ (v : ℕ). not (eqb v 0)) l i 0 b g))

-- `releases_length`
pub long_one : (l : List ℕ) (i long r : ℕ) → i < length l → long ≡ length (releases_bytes 0 (take i l)) → r ≡ length (entry_bytes i (get_or l i 0)) → long + r ≡ length (releases_bytes 0 (take (i + 1) l))
long_one l i long r b e f = omega (arith, length-append (releases_bytes 0 (take i l)) (entry_bytes i (get_or l i 0)), ap length (bytes_more l i b))

-- `entry_length`, `slot_length`
pub entry_none : (i v : ℕ) → v ≡ 0 → 0 ≡ length (entry_bytes i v)
unfolding entry_bytes
entry_none i v e = sym (simp (eq-eqb v 0 e))

pub entry_some : (i v a b : ℕ) → (v ≡ 0 → ⊥) → a ≡ width i → b ≡ width v → a + b ≡ length (entry_bytes i v)
unfolding entry_bytes width
entry_some i v a b d e f = ap₂ (λ (x : ℕ) (y : ℕ). x + y) e f ∙ sym (simp (ne_eqb v 0 d) (length-append (spell i) (spell v)))

pub slot_long : (l : List ℕ) (k a b : ℕ) → k ≡ releases_in l → a ≡ width k → b ≡ length (releases_bytes 0 l) → a + b ≡ length (slot_bytes l)
unfolding slot_bytes width
slot_long l k a b ek e f = omega (arith, length-append (spell (releases_in l)) (releases_bytes 0 l), ap (λ (x : ℕ). length (spell x)) ek)
