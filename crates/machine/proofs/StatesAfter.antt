-- The state that a list hands over after each call on it: the fresh state, and the state after a slot and after a run by value. Assumes nothing.
use Rattle.basis.specs.Prelude.{ℕ, ◌/◌, ◌≤◌, ◌≡◌, refl, sym, ap, ◌∙◌, Bool, true, false, List, length, replicate, leb, eqb, arith, le-leb, eq-eqb, leb-true, eqb-true}
use Rattle.machine.proofs.Names.{most_rows, pick, Outcome, accepted, refused, needed, both_accepted, get_d_all, true_not_false, needed_holds, legal, Sheet, legal_is, number_at, length_filled, State, record_at, fresh_at, fresh_state, legal_state, Done, check_slot, check_run, RunAnswer, fresh_answer, run_answer, fresh, next_state, next_codes, slot_by, slot, run, state_long, state_in, put_state, cleared, fresh_on, slot_listed, slot_in, run_in, ran_in}
use Rattle.machine.proofs.Inside.Answers.{slot_shows, run_in_order_shows}
use Rattle.machine.proofs.SlotsDone.{run_not_begun}
use Rattle.machine.proofs.LegalRuns.{run_keeps_legal, run_keeps_long}
use Rattle.machine.proofs.LegalLists.{kept_spare, past_is_zero, state_comes_back}
use Rattle.machine.proofs.Inside.RecordLists.{put_past, state_rows_long, state_put, zeros_spare, zeros_state, cleared_none}
use Rattle.machine.proofs.Inside.FreshLists.{fresh_put}
use Rattle.machine.proofs.SlotsInPlace.{moved_back}
use Rattle.machine.proofs.Inside.RunsInPlace.{course_none}

-- the fresh state, written into a list with room for it
written_fresh : (h : Sheet) (l : List ℕ) → legal h ≡ true → state_long h.count ≤ length l → state_in (put_state h.count (fresh_state h) (cleared l)) ≡ fresh_state h
unfolding fresh_state
written_fresh h l fine room =
    let put = state_put h.count (fresh_at h) (cleared l) (zeros_spare (cleared l) (cleared_none l)) (legal_is h fine).at_most_rows (omega (arith, length_filled (λ i. 0) l)) in
    rw (sym (fresh_put h (cleared l) fine), put, zeros_state (cleared l) (cleared_none l))

-- An accepted fresh: the list hands over the fresh state.
pub fresh_on_state : (h : Sheet) (l : List ℕ) → (fresh_on h l).outcome ≡ accepted → state_in (fresh_on h l).state ≡ (fresh h).state
unfolding fresh_on fresh
fresh_on_state h l e =
    let (a, b) = both_accepted (needed (legal h) 10) (needed (leb (state_long h.count) (length l)) 15) e in
    let fine = needed_holds (legal h) 10 a in
    let room = leb-true (state_long h.count) (length l) (needed_holds _ 15 b) in
    rw (fine, le-leb (state_long h.count) (length l) room) (written_fresh h l fine room)

-- in a list of zeros with room for every record it is never refused for want of room
pub fresh_of_zeros : (h : Sheet) → fresh_answer (fresh_on h (replicate (state_long most_rows) 0)).outcome (state_in (fresh_on h (replicate (state_long most_rows) 0)).state) ≡ fresh h
unfolding fresh_on fresh
fresh_of_zeros h = go (legal h) refl
  where
    go : (b : Bool) → legal h ≡ b → fresh_answer (fresh_on h (replicate (state_long most_rows) 0)).outcome (state_in (fresh_on h (replicate (state_long most_rows) 0)).state) ≡ fresh h
    go true e =
        let room : state_long h.count ≤ state_long most_rows = omega (arith, (legal_is h e).at_most_rows) in
        rw (e, le-leb (state_long h.count) (state_long most_rows) room, written_fresh h (replicate (state_long most_rows) 0) e room)
    go false e = rw (e, zeros_state (replicate (state_long most_rows) 0) (λ i. get_d_all (state_long most_rows) i 0))

-- A slot: the list hands over the state that the slot by value hands back.
pub slot_in_state : (h : Sheet) (l rel cs : List ℕ) → state_in (slot_in h l rel cs).state ≡ (slot h (state_in l) rel cs).state
unfolding slot_in slot
slot_in_state h l rel cs = go (check_slot h (state_in l) rel (length cs)) refl
  where
    next : State × List ℕ
    next = (next_state h (state_in l) rel, next_codes h (state_in l) rel cs)

    go : (o : Outcome) → check_slot h (state_in l) rel (length cs) ≡ o → state_in (slot_listed h.count (slot_by o next (state_in l, cs)) l).state ≡ (slot_by o next (state_in l, cs)).state
    go accepted e = let shown = (slot_shows h (state_in l) rel (length cs) e).in_order in moved_back h l rel shown.sheet_legal shown.state_legal
    go (refused a b) e = refl

-- A run: the list hands over the state after the run by value.
pub run_in_state : (h : Sheet) (l rel cs : List ℕ) → state_in (run_in h l rel cs).state ≡ (run h (state_in l) rel cs).state
unfolding run_in run
run_in_state h l rel cs = go (eqb (run h (state_in l) rel cs).done 0) (check_run h (state_in l) rel (length cs)) refl refl
  where
    go : (b : Bool) (o : Outcome) → eqb (run h (state_in l) rel cs).done 0 ≡ b → check_run h (state_in l) rel (length cs) ≡ o
        → state_in (pick b l (put_state h.count (run h (state_in l) rel cs).state l)) ≡ (run h (state_in l) rel cs).state
    go true o z e = sym (course_none h rel (run_answer 0 (check_run h (state_in l) rel (length cs)) (state_in l) cs) (length rel / h.count) (eqb-true _ 0 z))
    go false (refused a b) z e = true_not_false (sym (eq-eqb _ 0 (λ i. (run_not_begun h (state_in l) rel cs a b e i).done)) ∙ z)
    go false accepted z e =
        let shown = run_in_order_shows h (state_in l) rel (length cs) e in
        state_comes_back h l (run h (state_in l) rel cs).state shown.sheet_legal shown.state_legal (run_keeps_legal h (state_in l) rel cs shown.state_legal)
        (run_keeps_long h (state_in l) rel cs (state_rows_long l (kept_spare h l shown.sheet_legal shown.state_legal)))

-- so a run on a list is the run by value
pub run_listed_back : (h : Sheet) (l rel cs : List ℕ) (r : Done) (l' ds : List ℕ) → ran_in r l' ds ≡ run_in h l rel cs → ran_in r (state_in l') ds ≡ run h (state_in l) rel cs
unfolding run_in
run_listed_back h l rel cs r l' ds e =
    let t : state_in l' ≡ (run h (state_in l) rel cs).state = ap (λ (x : RunAnswer (List ℕ)). state_in x.state) e ∙ run_in_state h l rel cs in
    λ i. run_answer (e i).done (e i).outcome (t i) (e i).codes

-- Past the records of the rows every number is zero: after an accepted fresh, which has cleared the list,
pub fresh_past_is_zero : (n : ℕ) (t : State) (l : List ℕ) (i : ℕ) → state_long n ≤ i → number_at (put_state n t (cleared l)) i ≡ 0
unfolding put_state
fresh_past_is_zero n t l i b = rw (put_past, cleared_none)

-- and after an accepted slot or run, whose checks have asked for zeros there.
pub put_past_is_zero : (h : Sheet) (t : State) (l : List ℕ) (i : ℕ) → legal h ≡ true → legal_state h (state_in l) ≡ true → state_long h.count ≤ i → number_at (put_state h.count t l) i ≡ 0
unfolding put_state
put_past_is_zero h t l i fine kept b = rw (put_past (record_at t) l h.count i b, past_is_zero h l fine kept i b)
