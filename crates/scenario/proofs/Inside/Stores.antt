-- The loop of the writer that stores the entries of a slot, and the room that it has. Assumes nothing.
use Rattle.basis.specs.Prelude.{ℕ, ◌+◌, ◌≤◌, ◌<◌, ◌≡◌, sym, ap, ap₂, ◌∙◌, List, Bool, [], ◌++◌, length-sets, arith, length, get_or, take, drop, take-append-drop, length-append, eqb, sets, eq-eqb, ne_eqb}
use Rattle.scenario.proofs.Names.{sets_after, pick, spell, width, entry_bytes, releases_bytes, releases_in, slot_bytes}
use Rattle.scenario.proofs.Inside.Lengths.{releases_both, bytes_more}

-- ---- an entry

pub entry_not_stored : (out : List ℕ) (at i v : ℕ) → v ≡ 0 → out ≡ sets out at (entry_bytes i v)
unfolding entry_bytes
entry_not_stored out at i v e = sym (simp (eq-eqb v 0 e))

pub entry_stored : (out₀ out₁ out₂ : List ℕ) (at i v a : ℕ) → (v ≡ 0 → ⊥) → a ≡ width i → out₁ ≡ sets out₀ at (spell i) → out₂ ≡ sets out₁ (at + a) (spell v) → out₂ ≡ sets out₀ at (entry_bytes i v)
unfolding entry_bytes width
entry_stored out₀ out₁ out₂ at i v a d e f g =
    let whole : sets out₀ at (spell i ++ spell v) ≡ sets out₀ at (pick (eqb v 0) [] (spell i ++ spell v)) = ap (λ (t : Bool). sets out₀ at (pick t [] (spell i ++ spell v))) (sym (ne_eqb v 0 d)) in
    g ∙ ap₂ (λ (x : List ℕ) (k : ℕ). sets x (at + k) (spell v)) f e ∙ sets_after out₀ at (spell i) (spell v) ∙ whole

-- ---- the entries of a slot

module _ (at : ℕ) (l : List ℕ) (i next : ℕ) (e : next ≡ at + length (releases_bytes 0 (take i l))) where
  pub next_room : (out₀ out : List ℕ) → i < length l → length out ≡ length out₀ → at + length (releases_bytes 0 l) ≤ length out₀ → next + length (entry_bytes i (get_or l i 0)) ≤ length out
  next_room out₀ out b same room =
      let cut : releases_bytes 0 l ≡ releases_bytes 0 (take (i + 1) l) ++ releases_bytes (0 + length (take (i + 1) l)) (drop (i + 1) l) =
      ap (releases_bytes 0) (sym (take-append-drop (i + 1) l)) ∙ releases_both 0 (take (i + 1) l) (drop (i + 1) l) in
      omega (arith, ap length cut, length-append (releases_bytes 0 (take (i + 1) l)) (releases_bytes (0 + length (take (i + 1) l)) (drop (i + 1) l)), ap length (bytes_more l i b), length-append (releases_bytes 0 (take i l)) (entry_bytes i (get_or l i 0)))

  pub next_more : i < length l → (r : ℕ) → r ≡ next + length (entry_bytes i (get_or l i 0)) → r ≡ at + length (releases_bytes 0 (take (i + 1) l))
  next_more b r q = omega (arith, ap length (bytes_more l i b), length-append (releases_bytes 0 (take i l)) (entry_bytes i (get_or l i 0)))

  module _ (out₀ out : List ℕ) (so_far : out ≡ sets out₀ at (releases_bytes 0 (take i l))) where
    pub stored_more : i < length l → (out' : List ℕ) → out' ≡ sets out next (entry_bytes i (get_or l i 0)) → out' ≡ sets out₀ at (releases_bytes 0 (take (i + 1) l))
    stored_more b out' q =
        q ∙ ap₂ (λ (x : List ℕ) (k : ℕ). sets x k (entry_bytes i (get_or l i 0))) so_far e
        ∙ sets_after out₀ at (releases_bytes 0 (take i l)) (entry_bytes i (get_or l i 0))
        ∙ ap (sets out₀ at) (sym (bytes_more l i b))

-- ---- a slot

module _ (l : List ℕ) (at k w : ℕ) (ek : k ≡ releases_in l) (ew : w ≡ width k) where
  slot_is : slot_bytes l ≡ spell k ++ releases_bytes 0 l
  unfolding slot_bytes
  slot_is = ap (λ (x : ℕ). spell x ++ releases_bytes 0 l) (sym ek)

  slot_length : length (slot_bytes l) ≡ w + length (releases_bytes 0 l)
  unfolding width
  slot_length = ap length slot_is ∙ length-append (spell k) (releases_bytes 0 l) ∙ ap (λ (x : ℕ). x + length (releases_bytes 0 l)) (sym ew)

  pub releases_room : (out₀ out : List ℕ) → at + length (slot_bytes l) ≤ length out₀ → out ≡ sets out₀ at (spell k) → at + w + length (releases_bytes 0 l) ≤ length out
  releases_room out₀ out r e = omega (arith, slot_length, ap length e, length-sets out₀ at (spell k))

  pub slot_next : (r : ℕ) → r ≡ at + w + length (releases_bytes 0 l) → r ≡ at + length (slot_bytes l)
  slot_next r e = omega (arith, slot_length)

  pub slot_stored : (out₀ out₁ out₂ : List ℕ) → out₁ ≡ sets out₀ at (spell k) → out₂ ≡ sets out₁ (at + w) (releases_bytes 0 l) → out₂ ≡ sets out₀ at (slot_bytes l)
  unfolding width
  slot_stored out₀ out₁ out₂ e f =
      f ∙ ap₂ (λ (x : List ℕ) (j : ℕ). sets x (at + j) (releases_bytes 0 l)) e ew ∙ sets_after out₀ at (spell k) (releases_bytes 0 l) ∙ ap (sets out₀ at) (sym slot_is)
