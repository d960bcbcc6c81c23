-- What the calls about a number and a worked sheet answer at each way out. Assumes nothing.
use Rattle.basis.specs.Prelude.{ℕ, zero, suc, ◌+◌, ◌*◌, ◌≤◌, ◌<◌, ◌≡◌, sym, List, arith, length, lt-leb, le-leb, w64, Fits}
use Rattle.std.specs.Prelude.{Result, Ok, Err, MatchResult}
use Rattle.basis.specs.Readers.{step}
use Rattle.basis.specs.Refusals.{accepted, outcome, refused_by}
use Rattle.basis.specs.declared.refusal.Refusal.{Refusal}
use Rattle.exports.proofs.Names.{told, Step, Sheet, filled, sheet_cell, sheet_long, fixed_sheet, fields_in, step_told, fixed_in}

-- a value that is read, and the place after it, are told, or the refusal is
pub read_is_told : (a : Result (ℕ × ℕ) Refusal) (x : Step ℕ) → step a ≡ x → (r : Result (Unit {0}) Refusal) (v₀ n₀ v n : ℕ)
    → MatchResult a (λ both. (outcome r ≡ accepted) × (v ≡ both.0) × (n ≡ both.1)) (λ e. (outcome r ≡ refused_by e) × (v ≡ v₀) × (n ≡ n₀)) → (t : ℕ × ℕ) → t ≡ told (outcome r)
    → (t, (v, n)) ≡ step_told x (v₀, n₀)
unfolding step_told
read_is_told (Ok (w, m)) x e r v₀ n₀ v n (er, ev, en) t f = rw (f, er, ev, en, sym e)
read_is_told (Err q) x e r v₀ n₀ v n (er, ev, en) t f = rw (f, er, ev, en, sym e)

-- a worked sheet has three rows at most
few_rows : (k : ℕ) → (fixed_sheet k).count ≤ 3
unfolding fixed_sheet
few_rows zero = omega arith
few_rows (suc zero) = omega arith
few_rows (suc (suc zero)) = omega arith
few_rows (suc (suc (suc zero))) = omega arith
few_rows (suc (suc (suc (suc zero)))) = omega arith
few_rows (suc (suc (suc (suc (suc zero))))) = omega arith
few_rows (suc (suc (suc (suc (suc (suc k)))))) = omega arith

-- `giachimu_fixed`
module _ (k : ℕ) (h : Sheet) (e : h ≡ fixed_sheet k) where
  few : h.count ≤ 3
  few = rw e (few_rows k)

  pub fixed_rows_fit : Fits w64 (h.count * 4)
  fixed_rows_fit = record { fits = omega (arith, few) }

  pub fixed_places_fit : Fits w64 (h.count * 4 + 2)
  fixed_places_fit = record { fits = omega (arith, few) }

  module _ (list : List ℕ) (t : ℕ × ℕ) where
    pub fixed_has_no_room : length list < h.count * 4 + 2 → t ≡ (15, 0) → (t, list) ≡ fixed_in k list
    unfolding fixed_in fields_in
    fixed_has_no_room m f = rw (f, ← e, lt-leb (sheet_long h.count) (length list) m)

    pub fixed_is_written : h.count * 4 + 2 ≤ length list → (after : List ℕ) → after ≡ filled (sheet_cell h) list → t ≡ (0, 0) → (t, after) ≡ fixed_in k list
    unfolding fixed_in fields_in
    fixed_is_written m after g f = rw (f, g, ← e, le-leb (sheet_long h.count) (length list) m)
