-- Releases, placement and ageing are the slot: of all rows one step after another. Assumes nothing.
use Rattle.basis.specs.Prelude.{ℕ, ◌≤◌, ◌<◌, ◌≡◌, refl, ap, ap₂, ◌∙◌, List, length, get_or, le_refl, arith}
use Rattle.states.proofs.Names.{most_rows, length_upto, upto_below, upto_agree, upto_over, row_at, Sheet, State, state_of, RowState, Aged, record_of, no_record, worked, begun, free, runs, next, code, given, next_state, next_codes, job_at, released_at, released_state, placed_at, placed_record, placed_code, placed_state, placed_codes, aged_at, aged_record, aged_code, aged_state, aged_codes, placed_row, aged_row}
use Rattle.records.proofs.RowSlots.{row_code}
use Rattle.machine.proofs.Placement.{free_agrees}

-- after releases and placement, and the codes so far
abbrev worked_state : Sheet → State → List ℕ → State
worked_state h t rel = placed_state h (released_state h t rel)

abbrev codes_so_far : Sheet → State → List ℕ → List ℕ → List ℕ
codes_so_far h t rel cs = placed_codes h (released_state h t rel) cs

module _ (h : Sheet) (t : State) (rel cs : List ℕ) (long : h.count ≤ length t.rows) (room : h.count ≤ length cs) where
  u_at : (k : ℕ) → k < h.count → job_at (released_state h t rel) k ≡ begun (given h t rel) k
  unfolding given
  u_at k l = ap (λ (s : RowState). s.job) (upto_below h.count (released_at t rel) t.rows no_record k l long)

  placed_at_lem : (k : ℕ) → k < h.count → placed_at h (released_state h t rel) k ≡ placed_row (row_at h k) (begun (given h t rel) k) (free (given h t rel) k)
  unfolding given
  placed_at_lem k l = ap₂ (placed_row (row_at h k)) (u_at k l) (free_agrees h.processors (row_at h) (row_at h) _ _ k (λ i b. refl) (λ i b. u_at i (omega arith)))

  v_at : (k : ℕ) → k < h.count → job_at (worked_state h t rel) k ≡ worked (runs (given h t rel) k) (begun (given h t rel) k)
  unfolding given placed_row
  v_at k l =
      let e = upto_below h.count (placed_record h (released_state h t rel)) (released_state h t rel).rows no_record k l (rw length_upto long) in
      (λ i. (e i).job) ∙ (λ i. (placed_at_lem k l i).after)

  ds_at : (k : ℕ) → k < h.count → get_or (codes_so_far h t rel cs) k 0 ≡ (placed_row (row_at h k) (begun (given h t rel) k) (free (given h t rel) k)).code
  ds_at k l = upto_below h.count (placed_code h (released_state h t rel)) cs 0 k l room ∙ (λ i. (placed_at_lem k l i).code)

  aged_at_lem : (k : ℕ) → k < h.count → aged_at h (worked_state h t rel) (codes_so_far h t rel cs) k ≡ aged_row (row_at h k) (worked (runs (given h t rel) k) (begun (given h t rel) k)) (placed_row (row_at h k) (begun (given h t rel) k) (free (given h t rel) k)).code
  aged_at_lem k l = rw (v_at k l, ds_at k l)

  state_is : aged_state h (worked_state h t rel) (codes_so_far h t rel cs) ≡ next_state h t rel
  unfolding next_state given aged_row
  state_is =
      ap state_of
      (upto_agree h.count (aged_record h (worked_state h t rel) (codes_so_far h t rel cs)) (next (given h t rel)) (worked_state h t rel).rows (λ k l. ap (λ (x : Aged). record_of x.after) (aged_at_lem k l))
      ∙ upto_over h.count h.count (next (given h t rel)) (placed_record h (released_state h t rel)) (released_state h t rel).rows no_record (le_refl h.count) (rw length_upto long)
      ∙ upto_over h.count h.count (next (given h t rel)) (released_at t rel) t.rows no_record (le_refl h.count) long)

  codes_are : aged_codes h (worked_state h t rel) (codes_so_far h t rel cs) ≡ next_codes h t rel cs
  unfolding next_codes given
  codes_are =
      upto_agree h.count (aged_code h (worked_state h t rel) (codes_so_far h t rel cs)) (code (given h t rel)) (codes_so_far h t rel cs)
      (λ k l. ap (λ (x : Aged). x.code) (aged_at_lem k l) ∙ row_code (free (given h t rel) k) (row_at h k) (begun (given h t rel) k))
      ∙ upto_over h.count h.count (code (given h t rel)) (placed_code h (released_state h t rel)) cs 0 (le_refl h.count) room

-- what the three give, one after another
module _ (h : Sheet) (t : State) (rel cs : List ℕ) (u v : State) (ds : List ℕ) (long : length t.rows ≡ most_rows) (some : h.count ≤ most_rows) (room : h.count ≤ length cs)
    (eu : u ≡ released_state h t rel) (ev : v ≡ placed_state h u) (ed : ds ≡ placed_codes h u cs) where
  pub next_state_lem : (w : State) → w ≡ aged_state h v ds → w ≡ next_state h t rel
  next_state_lem w ew = let same : aged_state h v ds ≡ aged_state h (worked_state h t rel) (codes_so_far h t rel cs) = cc in ew ∙ same ∙ state_is h t rel cs (omega arith) room

  pub next_codes_lem : (es : List ℕ) → es ≡ aged_codes h v ds → es ≡ next_codes h t rel cs
  next_codes_lem es ee = let same : aged_codes h v ds ≡ aged_codes h (worked_state h t rel) (codes_so_far h t rel cs) = cc in ee ∙ same ∙ codes_are h t rel cs (omega arith) room
