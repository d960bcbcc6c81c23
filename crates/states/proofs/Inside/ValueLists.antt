-- A sheet and a state that are put into lists, what is answered of the lists, and a turn of the slot's loop over the rows. Assumes nothing.
use Rattle.basis.specs.Prelude.{ℕ, ◌+◌, ◌*◌, ◌≤◌, ◌≡◌, refl, sym, ap, ◌∙◌, Bool, true, false, List, length, get_or, set, replicate, arith, le_refl}
use Rattle.basis.specs.Refusals.{accepted, refused, needed}
use Rattle.basis.specs.Words.{pick}
use Rattle.machine.specs.States.{fresh_state}
use Rattle.machine.proofs.SlotsInPlace.{stepped_free, stepped_next, stepped_code}
use Rattle.records.specs.Methods.{stepped_row}
use Rattle.sheet.specs.Legal.{legal}
use Rattle.states.proofs.Names.{most_rows, Outcome, outcome, upto, upto_read, upto_set, row_at, Sheet, RowState, Placed, record_of, no_record, State, no_state, state_of, record_at, held, record_wide, record_in, state_long, state_in, put_record, put_to, fresh_on, run_in, ran_in, put_more, records_all, state_put, spare_of_full, state_rows_long, check_slot, check_run, FreshAnswer, fresh_answer, run_answer, fresh, run, free, next, code, given, MarginAnswer, margin}
use Rattle.sheet.specs.Lists.{filled, sheet_in, sheet_cell, sheet_long}
use Rattle.sheet.proofs.RoundTrip.{whole_sheet_comes_back}
use Rattle.states.specs.declared.state.State.{State as Value}
use Rattle.machine.specs.declared.places.Done.{Done}
use Rattle.machine.proofs.StatesAfter.{fresh_of_zeros, run_listed_back}

-- `listed`
pub sheet_in_list : (h : Sheet) (l l₀ : List ℕ) → l ≡ filled (sheet_cell h) l₀ → length h.rows ≡ most_rows → sheet_long most_rows ≤ length l₀ → sheet_in l ≡ h
sheet_in_list h l l₀ e long room = rw (e, whole_sheet_comes_back)

-- each call by value, by its call on lists: `fresh`
module _ (h : Sheet) (s : List ℕ) (eh : sheet_in s ≡ h) where
  pub fresh_by_list : (o : Outcome) (l' : List ℕ) → fresh_answer o l' ≡ fresh_on (sheet_in s) (replicate (state_long most_rows) 0) → (u : State) → u ≡ state_in l' → fresh_answer o u ≡ fresh h
  fresh_by_list o l' f u eu = rw (eu, sym eh) (ap (λ (x : FreshAnswer (List ℕ)). fresh_answer x.outcome (state_in x.state)) f ∙ fresh_of_zeros (sheet_in s))

  -- which beside a refusal is the state of zeros
  pub fresh_refused : (a b : ℕ) (l' : List ℕ) → fresh_answer (refused a b) l' ≡ fresh_on (sheet_in s) (replicate (state_long most_rows) 0) → fresh_answer (refused a b) no_state ≡ fresh h
  unfolding fresh
  fresh_refused a b l' f = go (legal h) (fresh_by_list (refused a b) l' f (state_in l') refl)
    where
      go : (t : Bool) → fresh_answer (refused a b) (state_in l') ≡ fresh_answer (needed t 10) (pick t (fresh_state h) no_state) → fresh_answer (refused a b) no_state ≡ fresh_answer (needed t 10) (pick t (fresh_state h) no_state)
      go true e = let z : refused a b ≡ accepted = λ i. (e i).outcome in cc
      go false e = λ i. fresh_answer (e i).outcome no_state

  -- a run, a margin, and the checks of a slot and of a run
  module _ (l : List ℕ) (t : State) (et : state_in l ≡ t) where
    pub run_by_list : (rel cs : List ℕ) (r : Done) (l' ds : List ℕ) → ran_in r l' ds ≡ run_in (sheet_in s) l rel cs → (u : State) → u ≡ state_in l'
        → run_answer r.done (outcome r.ended) u ds ≡ run h t rel cs
    run_by_list rel cs r l' ds f u eu = rw (eu, sym eh, sym et) (run_listed_back (sheet_in s) l rel cs r l' ds f)

    pub margin_by_list : (k : ℕ) (x : MarginAnswer) → x ≡ margin (sheet_in s) (state_in l) k → x ≡ margin h t k
    margin_by_list k x f = rw (eh, et) at f

    pub slot_check_by_list : (rel : List ℕ) (room : ℕ) (x : Outcome) → x ≡ check_slot (sheet_in s) (state_in l) rel room → x ≡ check_slot h t rel room
    slot_check_by_list rel room x f = rw (eh, et) at f

    pub run_check_by_list : (rel : List ℕ) (room : ℕ) (x : Outcome) → x ≡ check_run (sheet_in s) (state_in l) rel room → x ≡ check_run h t rel room
    run_check_by_list rel room x f = rw (eh, et) at f

-- `state_list`: a turn of its loop, and its end
pub list_more : (t : Value) (l l₀ : List ℕ) (i : ℕ) → l ≡ put_to i (record_at (held t)) l₀
    → set (set l (i * record_wide) (record_at (held t) i).job.remaining) (i * record_wide + 1) (record_at (held t) i).job.since ≡ put_to (i + 1) (record_at (held t)) l₀
unfolding put_record
list_more t l l₀ i e = put_more i (record_at (held t)) l l₀ (record_at (held t) i) e refl

pub state_in_list : (t : Value) (l l₀ : List ℕ) → l ≡ put_to most_rows (record_at (held t)) l₀ → l₀ ≡ replicate (state_long most_rows) 0 → length t.rows ≡ most_rows → state_in l ≡ held t
state_in_list t l l₀ e z long =
    let room : length l₀ ≡ state_long most_rows = ap length z in
    rw (e, state_put most_rows (record_at (held t)) l₀ (spare_of_full l₀ room) (le_refl most_rows) (omega arith))
    (ap state_of (records_all (record_at (held t)) (state_in l₀).rows t.rows (state_rows_long l₀ (spare_of_full l₀ room)) long (λ k there. refl)))

-- `state_of`: its end
pub records_done : (l : List ℕ) (rows : List RowState) → rows ≡ upto most_rows (record_in l) no_state.rows → length l ≡ state_long most_rows → state_of rows ≡ state_in l
unfolding state_in
records_done l rows e long = rw (spare_of_full l long, e)

-- `next`: a turn of its loop
module _ (h : Sheet) (t : State) (rel : List ℕ) (i : ℕ) (rows : List RowState) (so_far : rows ≡ upto i (next (given h t rel)) t.rows) (f : ℕ) (ef : f ≡ free (given h t rel) i)
    (r : Placed) (er : r ≡ stepped_row (row_at h i) (get_or rows i no_record).job (get_or rel i 0) f) where
  here : r ≡ stepped_row (row_at h i) (record_at t i).job (get_or rel i 0) (free (given h t rel) i)
  here = let e = upto_read i (next (given h t rel)) rows t.rows no_record so_far in cc

  pub next_free : r.free ≡ free (given h t rel) (i + 1)
  next_free = stepped_free h t rel i r here

  pub next_rows : set rows i (record_of r.after) ≡ upto (i + 1) (next (given h t rel)) t.rows
  next_rows = upto_set i (next (given h t rel)) rows t.rows (record_of r.after) so_far (stepped_next h t rel i r here)

  pub next_writes : (cs cs₀ : List ℕ) → cs ≡ upto i (code (given h t rel)) cs₀ → set cs i r.code ≡ upto (i + 1) (code (given h t rel)) cs₀
  next_writes cs cs₀ e = upto_set i (code (given h t rel)) cs cs₀ r.code e (stepped_code h t rel i r here)
