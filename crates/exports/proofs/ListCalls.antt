-- Demand 3 for a machine kept in a list: its accepted slots since fresh are those of a history by value. Assumes nothing.
use Rattle.basis.specs.Prelude.{ℕ, ◌≡◌, refl, sym, subst, Bool, true, false, List, [], ◌∷◌, ◌++◌, append-nil, append_assoc, arith, length, take, leb, eqb, ne_eqb, eqb-true, eqb-false}
use Rattle.exports.proofs.Names.{pick, Outcome, accepted, refused, is_accepted, or_else, needed, reading, legal, sheet_in, Sheet, State, fresh, slot, state_long, state_in, fresh_on, slot_in, run_in, InTime, NoJobIsLate, told, read_in, fresh_in, slot_on, run_on}
use Rattle.machine.proofs.RefusalTable.{InTable, sheet_not_legal, list_not_whole, over_the_budget, too_soon_lem, missing_row, short_buffer, state_not_legal, Listed, slot_refusals}
use Rattle.machine.proofs.StatesAfter.{fresh_on_state, slot_in_state, run_in_state}
use Rattle.green.specs.Calls.{Call, Done, slots_of, state_after, history, state_after_all, fresh_of}
use Rattle.green.specs.Calls as by_value
use Rattle.exports.specs.ListCalls.{ListCall, make_fresh, one_slot, a_run, list_after, slots_after, since_fresh, NoListedJobIsLate}
use Rattle.exports.proofs.Refusals.{refused_fresh_changes_nothing}
use Rattle.exports.proofs.Back.{read_comes_back}

-- no refusal of the machine is told as 0
not_zero : {n a b : ℕ} → InTable n a b → a ≡ 0 → ⊥
not_zero sheet_not_legal e = omega arith
not_zero list_not_whole e = omega arith
not_zero (over_the_budget l) e = omega arith
not_zero (too_soon_lem l) e = omega arith
not_zero missing_row e = omega arith
not_zero short_buffer e = omega arith
not_zero state_not_legal e = omega arith

-- a fresh that tells 0 is accepted
fresh_accepted : (h : Sheet) (l : List ℕ) → (told (fresh_on h l).outcome).0 ≡ 0 → (fresh_on h l).outcome ≡ accepted
unfolding fresh_on fresh
fresh_accepted h l e = go (legal h) (leb (state_long h.count) (length l)) e
  where
    go : (a b : Bool) → (told (or_else (needed a 10) (needed b 15))).0 ≡ 0 → or_else (needed a 10) (needed b 15) ≡ accepted
    go true true z = refl
    go true false z = absurd (omega arith)
    go false b z = absurd (omega arith)

-- the slot that a call adds is the slot that it tells
slot_told_lem : (n : ℕ) (rel cs : List ℕ) (o : Outcome) → Listed n o
    → pick {A = List Done} (is_accepted o) (record { releases = rel; codes = take n cs } ∷ []) [] ≡ pick (eqb (told o).0 0) (record { releases = rel; codes = take n cs } ∷ []) []
slot_told_lem n rel cs accepted l = refl
slot_told_lem n rel cs (refused a b) l = rw (ne_eqb a 0 (not_zero (l.listed a b refl)))

-- one call more, by value
module _ (h : Sheet) (c : Call) where
  history_more : (t : State) (cs : List Call) → history h t (cs ++ (c ∷ [])) ≡ history h t cs ++ slots_of h (state_after_all h t cs) c
  unfolding history state_after_all
  history_more t [] = append-nil _
  history_more t (d ∷ cs) = rw (history_more (state_after h t d) cs, append_assoc)

  state_more : (t : State) (cs : List Call) → state_after_all h t (cs ++ (c ∷ [])) ≡ state_after h (state_after_all h t cs) c
  unfolding state_after_all
  state_more t [] = refl
  state_more t (d ∷ cs) = state_more (state_after h t d) cs

-- a list and the slots since fresh are those of some calls by value from the fresh state
record Follows (h : Sheet) (l : List ℕ) (ds : List Done) : Type 0 where
  pub calls : List Call
  pub slots : history h (fresh_of h) calls ≡ ds
  pub state : state_after_all h (fresh_of h) calls ≡ state_in l

fresh_follows : (sheet l : List ℕ) → (fresh_in sheet l).0.0 ≡ 0 → Follows (sheet_in sheet) (fresh_in sheet l).1 []
unfolding fresh_in history state_after_all
fresh_follows sheet l e = record { calls = []; slots = refl; state = sym (fresh_on_state (sheet_in sheet) l (fresh_accepted (sheet_in sheet) l e)) }

-- one call by value more, that adds these slots and leaves this state
follows_more : (h : Sheet) (l l' : List ℕ) (ds es : List Done) (c : Call) → Follows h l ds → slots_of h (state_in l) c ≡ es → state_in l' ≡ state_after h (state_in l) c → Follows h l' (ds ++ es)
follows_more h l l' ds es c f e g =
    record { calls = f.calls ++ (c ∷ []); slots = rw (history_more, f.slots, f.state, e); state = rw (state_more, f.state, g) }

-- each call on the list
call_follows : (sheet l : List ℕ) (ds : List Done) (c : ListCall) → Follows (sheet_in sheet) l ds → Follows (sheet_in sheet) (list_after sheet l c) (slots_after sheet l ds c)
unfolding slot_on slot_in run_on run_in
call_follows sheet l ds make_fresh f = go (eqb (fresh_in sheet l).0.0 0) refl
  where
    go : (b : Bool) → eqb (fresh_in sheet l).0.0 0 ≡ b → Follows (sheet_in sheet) (fresh_in sheet l).1 (pick b [] ds)
    go true e = fresh_follows sheet l (eqb-true _ 0 e)
    go false e = rw (refused_fresh_changes_nothing sheet l (eqb-false _ 0 e)) f
call_follows sheet l ds (one_slot rel cs) f =
    follows_more (sheet_in sheet) l _ ds _ (by_value.one_slot rel cs) f
    (slot_told_lem (sheet_in sheet).count rel (slot (sheet_in sheet) (state_in l) rel cs).codes (slot (sheet_in sheet) (state_in l) rel cs).outcome (slot_refusals (sheet_in sheet) (state_in l) rel cs)) (slot_in_state (sheet_in sheet) l rel cs)
call_follows sheet l ds (a_run rel cs) f = follows_more (sheet_in sheet) l _ ds _ (by_value.a_run rel cs) f refl (run_in_state (sheet_in sheet) l rel cs)

-- and all of them
all_in_time : (sheet : List ℕ) → NoJobIsLate (sheet_in sheet) → (l : List ℕ) (ds : List Done) → Follows (sheet_in sheet) l ds → (calls : List ListCall) → InTime (sheet_in sheet) (sheet_in sheet).count (since_fresh sheet l ds calls)
unfolding since_fresh
all_in_time sheet late l ds f [] = subst (InTime (sheet_in sheet) (sheet_in sheet).count) f.slots (late f.calls)
all_in_time sheet late l ds f (c ∷ cs) = all_in_time sheet late (list_after sheet l c) (slots_after sheet l ds c) (call_follows sheet l ds c f) cs

-- No job of a sheet of which demand 3 holds is late where the machine is kept in a list.
pub listed_no_job_is_late : (sheet : List ℕ) → NoJobIsLate (sheet_in sheet) → NoListedJobIsLate sheet
listed_no_job_is_late sheet late list e calls = all_in_time sheet late (fresh_in sheet list).1 [] (fresh_follows sheet list e) calls

-- So where green holds of some bytes, none is late on the list that they are read into.
pub read_no_job_is_late : (s list : List ℕ) → NoJobIsLate (reading s).1 → (read_in s list).0.0 ≡ 0 → NoListedJobIsLate (read_in s list).1
read_no_job_is_late s list late e = listed_no_job_is_late (read_in s list).1 (subst NoJobIsLate (sym (read_comes_back s list e)) late)
