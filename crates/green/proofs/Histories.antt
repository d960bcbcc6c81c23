-- The accepted slots of any calls are a chain: of one slot, of a run, and of calls one after another. Assumes nothing.
use Rattle.basis.specs.Prelude.{ℕ, zero, suc, ◌+◌, ◌*◌, ◌/◌, ◌≤◌, ◌<◌, ◌≡◌, refl, List, [], ◌∷◌, ◌++◌, arith, add-one, length, take, drop, length-drop, take-append-drop, get_or-take}
use Rattle.green.proofs.Names.{Outcome, accepted, refused, upto_below, Sheet, State, code, check_slot, check_run, SlotAnswer, RunAnswer, slot_answer, run_answer, given, next_state, next_codes, slot_by, slot, entries_of, slot_at, onward, course, run, legal_state_is, Call, one_slot, a_run, slot_done, run_done, slots_of, state_after, history, state_after_all}
use Rattle.machine.proofs.Inside.Answers.{Accepted_slot, slot_shows}
use Rattle.machine.proofs.Inside.Courses.{followed}
use Rattle.machine.proofs.Inside.Entries.{entries_here, entries_there}
use Rattle.green.proofs.Inside.Chains.{Slotted, Chain, none, more, chain_append}

-- an accepted slot, on any buffer that begins with its codes
module _ (h : Sheet) (t : State) (rel cs : List ℕ) (e : check_slot h t rel (length cs) ≡ accepted) where
  shown : Accepted_slot h t rel (length cs)
  shown = slot_shows h t rel (length cs) e

  slotted_so : Slotted h t (record { releases = rel; codes = take h.count (next_codes h t rel cs) })
  unfolding next_codes
  slotted_so = record {
    state = legal_state_is h t shown.in_order.at_most_rows shown.in_order.state_legal;
    fine = shown.releases;
    wrote = λ k l. rw get_or-take (upto_below h.count (code (given h t rel)) cs 0 k l (omega (arith, shown.long, shown.roomy)));
  }

-- what a slot hands over, by its outcome
abbrev over : Sheet → State → List ℕ → List ℕ → Outcome → SlotAnswer State
over h t rel cs o = slot_by o (next_state h t rel, next_codes h t rel cs) (t, cs)

-- one slot
slot_chain : (h : Sheet) (t : State) (rel cs : List ℕ) → Chain h t (slots_of h t (one_slot rel cs)) (state_after h t (one_slot rel cs))
unfolding slot
slot_chain h t rel cs = go (check_slot h t rel (length cs)) refl
  where
    go : (o : Outcome) → check_slot h t rel (length cs) ≡ o → Chain h t (slot_done h.count rel (over h t rel cs o)) (over h t rel cs o).state
    go accepted e = more (slotted_so h t rel cs e) none
    go (refused number place) e = none

-- the slots of a run are those of any buffer that has the same codes for them
done_alike : (n : ℕ) (rel cs ds : List ℕ) (d : ℕ) → ((i : ℕ) → i < d → entries_of n i cs ≡ entries_of n i ds) → run_done n rel cs d ≡ run_done n rel ds d
unfolding run_done
done_alike n rel cs ds zero h = refl
done_alike n rel cs ds (suc d) h = rw (done_alike n rel cs ds d (λ i l. h i (omega arith)), h d (omega arith))

-- what a run has done after j slots
record Going (h : Sheet) (t : State) (rel : List ℕ) (j : ℕ) (c : RunAnswer State) : Type 0 where
  pub counted : c.outcome ≡ accepted → c.done ≡ j
  pub chain : Chain h t (run_done h.count rel c.codes c.done) c.state

-- one slot more of a run
module _ (h : Sheet) (t : State) (rel : List ℕ) (j : ℕ) (u : State) (cs : List ℕ) (c : Chain h t (run_done h.count rel cs j) u) where
  abbrev n : ℕ
  n = h.count

  abbrev own : List ℕ
  own = entries_of n j rel

  abbrev rest : List ℕ
  rest = drop (j * n) cs

  module _ (e : check_slot h u own (length rest) ≡ accepted) where
    abbrev after : List ℕ
    after = take (j * n) cs ++ next_codes h u own rest

    reaches : j * n ≤ length cs
    reaches = let s = shown h u own rest e in omega (arith, s.long, s.roomy, s.in_order.some_rows, length-drop (j * n) cs)

    -- the codes of this slot, and of those before it
    here : entries_of n j after ≡ take n (next_codes h u own rest)
    here = entries_here n j cs reaches (next_codes h u own rest)

    there : (i : ℕ) → i < j → entries_of n i after ≡ entries_of n i cs
    there = entries_there n j cs reaches (next_codes h u own rest)

    one_more : Chain h t (run_done n rel after (j + 1)) (next_state h u own)
    unfolding run_done
    one_more = rw (add-one, done_alike n rel after cs j there, here) (chain_append h c (more (slotted_so h u own rest e) none))

  followed_so : (o : Outcome) → check_slot h u own (length rest) ≡ o → Going h t rel (suc j) (followed j (slot_answer o (over h u own rest o).state (take (j * n) cs ++ (over h u own rest o).codes)))
  followed_so accepted e = record { counted = λ x. add-one j; chain = one_more e }
  followed_so (refused number place) e = record { counted = λ x. let z : ◌≡◌ {A = ℕ} 0 1 = cc in absurd (omega arith); chain = rw take-append-drop c }

-- by the outcome of the slots so far
going_on : (h : Sheet) (t : State) (rel : List ℕ) (j : ℕ) (c : RunAnswer State) → Going h t rel j c → (o : Outcome) → c.outcome ≡ o → Going h t rel (suc j) (onward h rel j c)
unfolding onward slot_at slot
going_on h t rel j c g accepted e = let d : c.done ≡ j = g.counted e in rw (e, d) (followed_so h t rel j c.state c.codes (rw d at g.chain) _ refl)
going_on h t rel j c g (refused number place) e = rw e (record { counted = λ x. let z : ◌≡◌ {A = ℕ} 0 1 = cc in absurd (omega arith); chain = g.chain })

run_going : (h : Sheet) (t : State) (rel cs : List ℕ) (o : Outcome) (j : ℕ) → Going h t rel j (course h rel (run_answer 0 o t cs) j)
unfolding course run_done
run_going h t rel cs o zero = record { counted = λ x. refl; chain = none }
run_going h t rel cs o (suc j) =
    going_on h t rel j (course h rel (run_answer 0 o t cs) j) (run_going h t rel cs o j) (course h rel (run_answer 0 o t cs) j).outcome refl

-- a run
run_chain : (h : Sheet) (t : State) (rel cs : List ℕ) → Chain h t (slots_of h t (a_run rel cs)) (state_after h t (a_run rel cs))
unfolding run
run_chain h t rel cs = (run_going h t rel cs (check_run h t rel (length cs)) (length rel / h.count)).chain

-- any call
call_chain : (h : Sheet) (t : State) (c : Call) → Chain h t (slots_of h t c) (state_after h t c)
call_chain h t (one_slot rel cs) = slot_chain h t rel cs
call_chain h t (a_run rel cs) = run_chain h t rel cs

-- calls one after another
pub history_chain : (h : Sheet) (t : State) (calls : List Call) → Chain h t (history h t calls) (state_after_all h t calls)
unfolding history state_after_all
history_chain h t [] = none
history_chain h t (c ∷ cs) = chain_append h (call_chain h t c) (history_chain h (state_after h t c) cs)
