-- What the number's writer leaves: equal answers, and both ways between writing and reading in a buffer. Assumes nothing.
use Rattle.basis.specs.Prelude.{ℕ, ◌+◌, ◌-◌, ◌^◌, ◌≤◌, ◌<◌, ◌≡◌, sym, ap, ap₂, ◌∙◌, List, ◌++◌, append_assoc, arith, length, take, drop, take-append-drop, sets, sets-eq, slice, length-slice, length-take-le, take-take}
use Rattle.basis.proofs.Same.{same}
use Rattle.numbers.proofs.Names.{most_groups, Bytes, ok, number, spell, width}
use Rattle.numbers.proofs.OneSpelling.{number_spelled, number_back}

-- `number_length`
pub number_length_same : (v a b : ℕ) → a ≡ width v → b ≡ width v → a ≡ b
number_length_same v = same (width v)

-- `write_number`
pub write_number_same : (out : List ℕ) (at v a b : ℕ) (o p : List ℕ) → (a ≡ width v) × (o ≡ sets out at (spell v))
    → (b ≡ width v) × (p ≡ sets out at (spell v)) → (a ≡ b) × (o ≡ p)
write_number_same out at v a b o p (e, f) (g, h) = (same (width v) a b e g, same (sets out at (spell v)) o p f h)

-- what is written where it has room is read back, to its end
pub written_number_is_read : (out : List ℕ) (at v : ℕ) → v < 128 ^ most_groups → at + width v ≤ length out
    → number (sets out at (spell v)) at ≡ ok v (at + width v)
unfolding width
written_number_is_read out at v small room =
    number_back (sets out at (spell v)) at v (take at out) (drop (at + length (spell v)) out) small
    (sets-eq (spell v) out at room ∙ append_assoc (take at out) (spell v) (drop (at + length (spell v)) out))
    (sym (length-take-le at out (omega arith)))

-- writing what was read, where it stands, changes nothing
pub read_number_is_written : (s : List ℕ) (at v n : ℕ) → Bytes s → number s at ≡ ok v n → (n ≡ at + width v) × (sets s at (spell v) ≡ s)
unfolding width
read_number_is_written s at v n bytes e =
    let r = number_spelled s at v n bytes e in
    let long : length (spell v) ≡ n - at = sym (ap length r.spelling) ∙ length-slice at n s r.inside in
    let en : at + length (spell v) ≡ n = omega (arith, r.some_bytes) in
    let cut : take at s ++ slice at n s ≡ take n s =
    ap (λ (x : List ℕ). x ++ slice at n s) (sym (take-take at n s (omega (arith, r.some_bytes)))) ∙ take-append-drop at (take n s) in (
      sym en,
      sets-eq (spell v) s at (omega (arith, r.inside)) ∙ ap₂ (λ (x : List ℕ) (k : ℕ). take at s ++ x ++ drop k s) (sym r.spelling) en
          ∙ ap (λ (x : List ℕ). x ++ drop n s) cut ∙ take-append-drop n s,
    )
