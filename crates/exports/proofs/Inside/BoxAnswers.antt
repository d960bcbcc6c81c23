-- What the call of the box's own loop answers at each way out, and the list of a state that it writes. Assumes nothing.
use Rattle.basis.specs.Prelude.{ℕ, ◌*◌, ◌/◌, ◌%◌, ◌≤◌, ◌<◌, ◌≡◌, sym, ◌∙◌, Bool, true, false, List, arith, length, get_or-eq_default, lt-leb, le-leb, ne_eqb, w64, Fits}
use Rattle.exports.proofs.Names.{most_rows, outcome, pair_cell, legal, filled, sheet_in, Sheet, held, ran, no_record, State, record_at, state_long, fresh, run, told, state_cell, box_of, box_on}
use Rattle.sheet.proofs.Legality.{legal_is}
use Rattle.records.specs.declared.record.RowState.{RowState}
use Rattle.states.specs.declared.runs.Ran.{Ran}

-- `record_at`
pub record_past : (t : State) (k : ℕ) → length t.rows ≡ most_rows → most_rows ≤ k → no_record ≡ record_at t k
record_past t k long b = sym (get_or-eq_default t.rows no_record {n = k} (rw long b))

-- `cell_of`
module _ (t : State) (i : ℕ) (s : RowState) (e : s ≡ record_at t (i / 2)) where
  pub even_cell : i % 2 ≡ 0 → s.job.remaining ≡ state_cell t i
  unfolding pair_cell
  even_cell z = rw (e, z)

  pub odd_cell : (i % 2 ≡ 0 → ⊥) → s.job.since ≡ state_cell t i
  unfolding pair_cell
  odd_cell z = rw (e, ne_eqb (i % 2) 0 z)

-- `giachimu_box`
module _ (s list rel cs : List ℕ) (b : Bool) (eb : b ≡ legal (sheet_in s)) where
  pub box_not_legal : b ≡ false → (t : ℕ × ℕ) → t ≡ (10, 0) → (t, (0, (list, cs))) ≡ box_on s list rel cs
  unfolding box_on box_of
  box_not_legal q t f = rw (f, sym eb, q)

  module _ (q : b ≡ true) (n : ℕ) (en : n ≡ (sheet_in s).count) where
    few : n ≤ most_rows
    few = rw en (legal_is (sheet_in s) (sym eb ∙ q)).at_most_rows

    pub records_fit : Fits w64 (n * 2)
    records_fit = record { fits = omega (arith, few) }

    pub box_has_no_room : length list < n * 2 → (t : ℕ × ℕ) → t ≡ (15, 0) → (t, (0, (list, cs))) ≡ box_on s list rel cs
    unfolding box_on box_of
    box_has_no_room m t f = rw (f, sym eb ∙ q, lt-leb (state_long (sheet_in s).count) (length list) (omega (arith, en)))

    pub box_answered : n * 2 ≤ length list → (h : Sheet) → h ≡ sheet_in s → (r : Ran) (ds : List ℕ) → ran r ds ≡ run h (fresh h).state rel cs
        → (after : List ℕ) → after ≡ filled (state_cell (held r.state)) list → (t : ℕ × ℕ) → t ≡ told (outcome r.ended) → (t, (r.done, (after, ds))) ≡ box_on s list rel cs
    unfolding box_on box_of
    box_answered m h eh r ds er after ea t f = rw (f, ea, sym eb, q, le-leb (state_long (sheet_in s).count) (length list) (omega (arith, en)), sym (rw eh at er))
