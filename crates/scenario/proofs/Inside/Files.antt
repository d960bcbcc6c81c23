-- The loops of the writer over the slots, after the mark: what they measure and store, and the ways out of the writer. Assumes nothing.
use Rattle.std.specs.Prelude.{Err}
use Rattle.std.proofs.Math.Nat.{add-div_left, div-eq_of_lt}
use Rattle.basis.specs.Prelude.{ℕ, suc, ◌+◌, ◌/◌, ◌≤◌, ◌<◌, ◌≡◌, sym, ap, ap₂, ◌∙◌, Bool, true, false, List, [], ◌++◌, add-one, length, take, take_at, drop, drop_at, length-append, leb, sets}
use Rattle.basis.specs.Refusals.{refused_by}
use Rattle.basis.specs.declared.refusal.Refusal.TheVariants as refusals
use Rattle.scenario.proofs.Names.{Refusal, Outcome, accepted, refused, pick, answer, nothing_by, written_by, written_told, sets_after, check_list, check_whole, write_scenario, mark_bytes, file_of, scenario_bytes, slot_bytes, slots_bytes, legal, sheet_in, Sheet}

-- the bytes of the slots that a list holds
abbrev pub rest_bytes : Sheet → List ℕ → List ℕ
rest_bytes h l = slots_bytes h.count (length l / h.count) l

module _ (h : Sheet) (l : List ℕ) where
  -- the mark, and those
  pub file_long : length (file_of h l) ≡ 4 + length (rest_bytes h l)
  unfolding scenario_bytes
  file_long = length-append mark_bytes (rest_bytes h l)

  pub file_stored : (out : List ℕ) → sets (sets out 0 mark_bytes) 4 (rest_bytes h l) ≡ sets out 0 (file_of h l)
  unfolding scenario_bytes
  file_stored out = sets_after out 0 mark_bytes (rest_bytes h l)

  -- no slot is left
  pub no_slot : length l < h.count → rest_bytes h l ≡ []
  unfolding slots_bytes
  no_slot b = ap (λ (k : ℕ). slots_bytes h.count k l) (div-eq_of_lt b)

  -- a slot, and the others
  module _ (x r : List ℕ) (e : l ≡ x ++ r) (long : length x ≡ h.count) (pos : 1 ≤ h.count) where
    pub slot_first : rest_bytes h l ≡ slot_bytes x ++ rest_bytes h r
    unfolding slots_bytes
    slot_first =
        let more : length l / h.count ≡ suc (length r / h.count) =
        ap (λ (k : ℕ). k / h.count) (ap length e ∙ length-append x r ∙ ap (λ (k : ℕ). k + length r) long) ∙ add-div_left (length r) {k = h.count} pos ∙ add-one (length r / h.count) in
        ap (λ (k : ℕ). slots_bytes h.count k l) more
        ∙ ap₂ (λ (a : List ℕ) (b : List ℕ). slot_bytes a ++ slots_bytes h.count (length r / h.count) b) (ap (take h.count) e ∙ take_at x r h.count long) (ap (drop h.count) e ∙ drop_at x r h.count long)

    pub first_long : length (rest_bytes h l) ≡ length (slot_bytes x) + length (rest_bytes h r)
    first_long = ap length slot_first ∙ length-append (slot_bytes x) (rest_bytes h r)

    pub first_stored : (out out' : List ℕ) (at at' : ℕ) → out' ≡ sets out at (slot_bytes x) → at' ≡ at + length (slot_bytes x) → sets out' at' (rest_bytes h r) ≡ sets out at (rest_bytes h l)
    first_stored out out' at at' f g =
        ap₂ (λ (z : List ℕ) (k : ℕ). sets z k (rest_bytes h r)) f g ∙ sets_after out at (slot_bytes x) (rest_bytes h r) ∙ ap (sets out at) (sym slot_first)

-- the ways out of `write_scenario`
pub write_illegal : (h : Sheet) (l out : List ℕ) (r : Refusal) → (r ≡ refusals.Sheet) × (legal h ≡ false) → written_told (Err r) out ≡ write_scenario h l out
unfolding write_scenario check_list
write_illegal h l out r (e, f) =
    ap (λ (x : Refusal). written_told (Err x) out) e ∙ sym (ap (λ (b : Bool). written_by (pick b (check_whole h l) (refused 10 0)) (file_of h l) out) f)

module _ (t t₀ l out : List ℕ) (same : (t ≡ t₀) × (legal (sheet_in t₀) ≡ true)) where
  write_as : (o : Outcome) → o ≡ check_whole (sheet_in t) l → written_by o (file_of (sheet_in t) l) out ≡ write_scenario (sheet_in t₀) l out
  unfolding write_scenario check_list
  write_as o e =
      ap (λ (x : Outcome). written_by x (file_of (sheet_in t) l) out) e
      ∙ ap (λ (z : List ℕ). written_by (check_whole (sheet_in z) l) (file_of (sheet_in z) l) out) same.0
      ∙ sym (ap (λ (b : Bool). written_by (pick b (check_whole (sheet_in t₀) l) (refused 10 0)) (file_of (sheet_in t₀) l) out) same.1)

  pub write_refused : (r : Refusal) → refused_by r ≡ check_whole (sheet_in t) l → written_told (Err r) out ≡ write_scenario (sheet_in t₀) l out
  write_refused r e = write_as (refused_by r) e

  module _ (e : accepted ≡ check_whole (sheet_in t) l) (b : Bool) (eb : b ≡ leb (length (file_of (sheet_in t) l)) (length out)) where
    pub write_short : b ≡ false → nothing_by (refused 15 0) out ≡ write_scenario (sheet_in t₀) l out
    write_short f =
        sym (ap (λ (c : Bool). pick c (answer accepted (length (file_of (sheet_in t) l)) (sets out 0 (file_of (sheet_in t) l))) (nothing_by (refused 15 0) out)) (sym eb ∙ f))
        ∙ write_as accepted e

    pub write_whole : b ≡ true → (k : ℕ) (out' : List ℕ) → (k ≡ length (file_of (sheet_in t) l)) × (out' ≡ sets out 0 (file_of (sheet_in t) l)) → answer accepted k out' ≡ write_scenario (sheet_in t₀) l out
    write_whole f k out' (ek, eo) =
        ap₂ (λ (x : ℕ) (y : List ℕ). answer accepted x y) ek eo
        ∙ sym (ap (λ (c : Bool). pick c (answer accepted (length (file_of (sheet_in t) l)) (sets out 0 (file_of (sheet_in t) l))) (nothing_by (refused 15 0) out)) (sym eb ∙ f))
        ∙ write_as accepted e
