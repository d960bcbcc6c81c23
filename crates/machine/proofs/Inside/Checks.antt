-- What a check that was answered says: of the sheet and the state, of the list and the buffer, and of the rows. Assumes nothing.
use Rattle.basis.specs.Prelude.{ℕ, ◌%◌, ◌≤◌, ◌<◌, ◌≡◌, sym, ◌∙◌, true, List, length, le-leb, lt-leb, eq-eqb, ne_eqb}
use Rattle.machine.proofs.Names.{most_rows, Outcome, accepted, refused, needed, both_accepted, needed_holds, legal, Sheet, legal_is, State, legal_state, check_releases, check_state, check_room, check_slot, check_run}

-- a sheet and a state that are in order
pub record Ready (h : Sheet) (t : State) : Type 0 where
  pub sheet_legal : legal h ≡ true
  pub state_legal : legal_state h t ≡ true
  pub some_rows : 1 ≤ h.count
  pub at_most_rows : h.count ≤ most_rows

pub ready : (h : Sheet) (t : State) → check_state h t ≡ accepted → Ready h t
unfolding check_state
ready h t e =
    let (a, b) = both_accepted (needed (legal h) 10) (needed (legal_state h t) 16) e in
    let fine = needed_holds (legal h) 10 a in
    let r = legal_is h fine in record { sheet_legal = fine; state_legal = needed_holds (legal_state h t) 16 b; some_rows = r.some_rows; at_most_rows = r.at_most_rows }

pub checked_legal : (h : Sheet) (t : State) → accepted ≡ check_state h t → legal_state h t ≡ true
checked_legal h t e = (ready h t (sym e)).state_legal

-- the calls that begin with `check_state`: what it refused, and what follows where it passed
module _ (h : Sheet) (t : State) where
  module _ (a b : ℕ) (e : refused a b ≡ check_state h t) where
    pub slot_refused : (rel : List ℕ) (room : ℕ) → refused a b ≡ check_slot h t rel room
    unfolding check_slot
    slot_refused rel room = rw (sym e)

    pub run_refused : (rel : List ℕ) (room : ℕ) → refused a b ≡ check_run h t rel room
    unfolding check_run
    run_refused rel room = rw (sym e)

  module _ (e : accepted ≡ check_state h t) where
    module _ (rel : List ℕ) (room : ℕ) (n : ℕ) (en : n ≡ h.count) where
      pub slot_11 : (length rel ≡ n → ⊥) → refused 11 0 ≡ check_slot h t rel room
      unfolding check_slot check_room
      slot_11 d = rw (sym e, ne_eqb _ _ (λ z. d (z ∙ sym en)))

      pub slot_15 : length rel ≡ n → room < length rel → refused 15 0 ≡ check_slot h t rel room
      unfolding check_slot check_room
      slot_15 d l = rw (sym e, eq-eqb _ _ (d ∙ en), lt-leb _ _ l)

      pub slot_rows : (o : Outcome) → length rel ≡ n → length rel ≤ room → o ≡ check_releases h t rel → o ≡ check_slot h t rel room
      unfolding check_slot check_room
      slot_rows o d l g = rw (sym e, eq-eqb _ _ (d ∙ en), le-leb _ _ l) g

      pub run_11 : (length rel % n ≡ 0 → ⊥) → refused 11 0 ≡ check_run h t rel room
      unfolding check_run check_room
      run_11 d = rw (sym e, ne_eqb _ _ (rw en at d))

      pub run_15 : length rel % n ≡ 0 → room < length rel → refused 15 0 ≡ check_run h t rel room
      unfolding check_run check_room
      run_15 d l = rw (sym e, eq-eqb _ _ (rw en at d), lt-leb _ _ l)

      pub run_in_order : length rel % n ≡ 0 → length rel ≤ room → accepted ≡ check_run h t rel room
      unfolding check_run check_room
      run_in_order d l = rw (sym e, eq-eqb _ _ (rw en at d), le-leb _ _ l)
