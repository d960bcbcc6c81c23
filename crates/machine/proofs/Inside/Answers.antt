-- Each call's answer, from the answers of what it calls. Assumes nothing.
use Rattle.basis.specs.Prelude.{ℕ, ◌*◌, ◌/◌, ◌%◌, ◌≤◌, ◌<◌, ◌≡◌, refl, sym, true, List, length, leb, eqb, arith, div-add-mod', leb-true, eqb-true}
use Rattle.machine.proofs.Names.{most_rows, accepted, refused, needed, both_accepted, needed_holds, Sheet, State, legal_state, check_releases, check_state, check_room, check_slot, check_run, RunAnswer, slot_answer, run_answer, next_state, next_codes, slot, course, run}
use Rattle.machine.proofs.Inside.Checks.{Ready, ready}
use Rattle.machine.proofs.Inside.Courses.{stopped}

-- what an accepted slot's checks have shown
pub record Accepted_slot (h : Sheet) (t : State) (rel : List ℕ) (room : ℕ) : Type 0 where
  pub in_order : Ready h t
  pub long : length rel ≡ h.count
  pub roomy : length rel ≤ room
  pub releases : check_releases h t rel ≡ accepted

pub slot_shows : (h : Sheet) (t : State) (rel : List ℕ) (room : ℕ) → check_slot h t rel room ≡ accepted → Accepted_slot h t rel room
unfolding check_slot check_room
slot_shows h t rel room e =
    let (a, b) = both_accepted (check_state h t) _ e in
    let (c, d) = both_accepted (check_room (eqb (length rel) h.count) (length rel) room) _ b in
    let (p, q) = both_accepted (needed (eqb (length rel) h.count) 11) _ c in
    record { in_order = ready h t a; long = eqb-true _ _ (needed_holds _ 11 p); roomy = leb-true _ _ (needed_holds _ 15 q); releases = d }

-- `slot`: what its checks have shown, with so much room for codes
module _ (h : Sheet) (t : State) (rel : List ℕ) (room : ℕ) (e : accepted ≡ check_slot h t rel room) where
  shown : Accepted_slot h t rel room
  shown = slot_shows h t rel room (sym e)

  pub slot_state : legal_state h t ≡ true
  slot_state = shown.in_order.state_legal

  module _ (n : ℕ) (en : n ≡ h.count) where
    pub rows_in_state : n ≤ most_rows
    rows_in_state = omega (arith, shown.in_order.at_most_rows)

    pub rows_in_list : n ≤ length rel
    rows_in_list = omega (arith, shown.long)

    pub rows_in_buffer : n ≤ room
    rows_in_buffer = omega (arith, shown.long, shown.roomy)

module _ (h : Sheet) (t : State) (rel cs : List ℕ) where
  pub slot_is_refused : (a b : ℕ) → refused a b ≡ check_slot h t rel (length cs) → slot_answer (refused a b) t cs ≡ slot h t rel cs
  unfolding slot
  slot_is_refused a b e = rw (sym e)

  pub slot_is_accepted : accepted ≡ check_slot h t rel (length cs) → (u : State) (ds : List ℕ) → u ≡ next_state h t rel → ds ≡ next_codes h t rel cs → slot_answer accepted u ds ≡ slot h t rel cs
  unfolding slot
  slot_is_accepted e u ds eu ed = rw (sym e, eu, ed)

-- a slot that is refused leaves all as found: the state, and every code
pub refused_as_found : (h : Sheet) (t : State) (rel cs : List ℕ) (a b : ℕ) (u : State) (ds : List ℕ) → slot_answer (refused a b) u ds ≡ slot h t rel cs → (u ≡ t) × (ds ≡ cs)
unfolding slot
refused_as_found h t rel cs a b u ds e =
    let f : check_slot h t rel (length cs) ≡ refused a b = sym (λ i. (e i).outcome) in
    let g : slot_answer (refused a b) u ds ≡ slot_answer (refused a b) t cs = rw f at e in (λ i. (g i).state, λ i. (g i).codes)

-- what the checks of a run that were passed have shown
pub run_in_order_shows : (h : Sheet) (t : State) (rel : List ℕ) (room : ℕ) → check_run h t rel room ≡ accepted → Ready h t
unfolding check_run
run_in_order_shows h t rel room e = ready h t (both_accepted (check_state h t) _ e).0

-- `run`: what its checks have shown, with so much room for codes
module _ (h : Sheet) (t : State) (rel : List ℕ) (room : ℕ) (e : accepted ≡ check_run h t rel room) where
  parts : (check_state h t ≡ accepted) × (leb (length rel) room ≡ true)
  unfolding check_run check_room
  parts =
      let (a, b) = both_accepted (check_state h t) _ (sym e) in
      let (p, q) = both_accepted (needed (eqb (length rel % h.count) 0) 11) _ b in
      (a, needed_holds _ 15 q)

  pub run_state : legal_state h t ≡ true
  run_state = (ready h t parts.0).state_legal

  pub run_rows : (n : ℕ) → n ≡ h.count → 0 < n
  run_rows n en = omega (arith, (ready h t parts.0).some_rows)

  pub run_list : (n : ℕ) → length rel / n * n ≤ length rel
  run_list n = omega (arith, div-add-mod' (length rel) n)

  pub run_buffer : (n : ℕ) → length rel / n * n ≤ room
  run_buffer n = omega (arith, div-add-mod' (length rel) n, leb-true (length rel) room parts.1)

module _ (h : Sheet) (t : State) (rel cs : List ℕ) where
  pub run_is_refused : (a b : ℕ) → refused a b ≡ check_run h t rel (length cs) → run_answer 0 (refused a b) t cs ≡ run h t rel cs
  unfolding run
  run_is_refused a b e = rw (sym e) (sym (stopped h rel (run_answer 0 (refused a b) t cs) (length rel / h.count) a b refl))

  pub run_is_done : accepted ≡ check_run h t rel (length cs) → (n : ℕ) → n ≡ h.count → (a : RunAnswer State) → a ≡ course h rel (run_answer 0 accepted t cs) (length rel / n) → a ≡ run h t rel cs
  unfolding run
  run_is_done e n en a g = rw (sym e) (rw en at g)
