-- Two sheets: rows 0 to k decide for rows 0 to k, and rows past n decide nothing. Assumes nothing.
use Rattle.basis.specs.Prelude.{ℕ, ◌≤◌, ◌<◌, ◌≡◌, List, length, get_or, arith}
use Rattle.machine.proofs.Names.{accepted, upto_below, Sheet, State, record_at, Given, begun, free, runs, next, code, check_slot, slot_answer, given, next_state, next_codes, slot}
use Rattle.machine.proofs.Inside.Answers.{slot_shows}
use Rattle.machine.proofs.Inside.Legals.{legal_state_is}
use Rattle.machine.proofs.Inside.LegalSlots.{next_at}
use Rattle.machine.proofs.Placement.{free_agrees}

-- what two slots are given is equal in m and in rows 0 to k
pub record AgreeTo (k : ℕ) (g g' : Given) : Type 0 where
  pub processors : g.processors ≡ g'.processors
  pub rows : (i : ℕ) → i ≤ k → g.rows i ≡ g'.rows i
  pub records : (i : ℕ) → i ≤ k → g.records i ≡ g'.records i
  pub releases : (i : ℕ) → i ≤ k → g.releases i ≡ g'.releases i

-- then rows 0 to k begin, run, and end the slot alike
module _ (k : ℕ) (g g' : Given) (a : AgreeTo k g g') where
  begun_agrees : (i : ℕ) → i ≤ k → begun g i ≡ begun g' i
  begun_agrees i l = rw (a.releases i l, a.records i l)

  module _ (i : ℕ) (l : i ≤ k) where
    free_agrees_to : free g i ≡ free g' i
    free_agrees_to = rw (free_agrees g.processors g.rows g'.rows (begun g) (begun g') i (λ j b. a.rows j (omega arith)) (λ j b. begun_agrees j (omega arith)), a.processors)

    runs_agrees : runs g i ≡ runs g' i
    runs_agrees = rw (free_agrees_to, a.rows i l, begun_agrees i l)

    pub next_agrees : next g i ≡ next g' i
    next_agrees = rw (runs_agrees, a.rows i l, begun_agrees i l)

    pub code_agrees : code g i ≡ code g' i
    code_agrees = rw (runs_agrees, a.rows i l, begun_agrees i l)

-- an accepted slot, and what it gives
module _ (h : Sheet) (t : State) (rel cs : List ℕ) (f : (slot h t rel cs).outcome ≡ accepted) where
  pub slot_passed : check_slot h t rel (length cs) ≡ accepted
  unfolding slot
  slot_passed = f

  pub slot_gives : slot h t rel cs ≡ slot_answer accepted (next_state h t rel) (next_codes h t rel cs)
  unfolding slot
  slot_gives = rw slot_passed

  pub record_after : (i : ℕ) → i < h.count → record_at (slot h t rel cs).state i ≡ next (given h t rel) i
  record_after i l =
      let shown = (slot_shows h t rel (length cs) slot_passed).in_order in
      rw slot_gives (next_at h t rel (legal_state_is h t shown.at_most_rows shown.state_legal) i l)

  pub code_after_lem : (i : ℕ) → i < h.count → get_or (slot h t rel cs).codes i 0 ≡ code (given h t rel) i
  unfolding next_codes
  code_after_lem i l = let shown = slot_shows h t rel (length cs) slot_passed in rw slot_gives (upto_below h.count (code (given h t rel)) cs 0 i l (omega arith))

-- two accepted slots that are given equal rows 0 to k: codes and next records of rows 0 to k are equal
pub upper_rows_decide : (h h' : Sheet) (t t' : State) (rel rel' cs cs' : List ℕ) (k : ℕ) → AgreeTo k (given h t rel) (given h' t' rel')
    → (slot h t rel cs).outcome ≡ accepted → (slot h' t' rel' cs').outcome ≡ accepted → k < h.count → k < h'.count → (i : ℕ) → i ≤ k
    → (get_or (slot h t rel cs).codes i 0 ≡ get_or (slot h' t' rel' cs').codes i 0) × (record_at (slot h t rel cs).state i ≡ record_at (slot h' t' rel' cs').state i)
upper_rows_decide h h' t t' rel rel' cs cs' k a e e' l l' i b =
    let m : i < h.count = omega arith in
    let m' : i < h'.count = omega arith in
    (rw (code_after_lem, code_after_lem, code_agrees k _ _ a i b), rw (record_after, record_after, next_agrees k _ _ a i b))
