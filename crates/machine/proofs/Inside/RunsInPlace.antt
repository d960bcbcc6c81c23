-- The run in place: a run that has done no slot has changed nothing, and what each way out shows. Assumes nothing.
use Rattle.basis.specs.Prelude.{ℕ, zero, suc, ◌/◌, ◌≡◌, refl, sym, ap, ◌∙◌, Bool, true, false, List, length, eqb, arith, eqb-true}
use Rattle.machine.proofs.Names.{pick, Outcome, accepted, refused, is_accepted, legal, Sheet, State, legal_state, Done, check_run, RunAnswer, run_answer, slot_at, onward, course, state_in, put_state, run_in, ran_in}
use Rattle.machine.proofs.Inside.Answers.{run_state, run_is_refused, run_is_done}
use Rattle.machine.proofs.Inside.Courses.{followed}
use Rattle.machine.proofs.LegalLists.{list_of_kept}
use Rattle.machine.proofs.SlotsDone.{refused_leaves}

-- a refused slot leaves the state as it was, so a run that has done no slot has changed nothing
pub course_none : (h : Sheet) (rel : List ℕ) (first : RunAnswer State) (j : ℕ) → (course h rel first j).done ≡ 0 → (course h rel first j).state ≡ first.state
unfolding course onward
course_none h rel first zero e = refl
course_none h rel first (suc j) e = let c = course h rel first j in go c (is_accepted c.outcome) (slot_at h c.state rel c.codes j).outcome refl (course_none h rel first j) e
  where
    go : (c : RunAnswer State) (x : Bool) (o : Outcome) → (slot_at h c.state rel c.codes j).outcome ≡ o → (c.done ≡ 0 → c.state ≡ first.state)
        → (pick x (followed c.done (slot_at h c.state rel c.codes j)) c).done ≡ 0 → (pick x (followed c.done (slot_at h c.state rel c.codes j)) c).state ≡ first.state
    go c true accepted g so z = absurd (omega (arith, rw g at z))
    go c true (refused a b) g so z = rw (refused_leaves h c.state rel c.codes j a b g) (so (rw g at z))
    go c false o g so z = so z

-- `run_on`
module _ (h : Sheet) (l rel cs : List ℕ) where
  pub run_in_refused : (a b : ℕ) → refused a b ≡ check_run h (state_in l) rel (length cs) → run_answer 0 (refused a b) l cs ≡ run_in h l rel cs
  unfolding run_in
  run_in_refused a b e = rw (sym (run_is_refused h (state_in l) rel cs a b e))

  module _ (fine : legal h ≡ true) (e : accepted ≡ check_run h (state_in l) rel (length cs)) (n : ℕ) (en : n ≡ h.count) (r : Done) (l' ds : List ℕ)
      (er : ran_in r (state_in l') ds ≡ course h rel (run_answer 0 accepted (state_in l) cs) (length rel / n)) (kept' : legal_state h (state_in l') ≡ true) (long : length l' ≡ length l) where
    kept : legal_state h (state_in l) ≡ true
    kept = run_state h (state_in l) rel (length cs) e

    same_list : put_state h.count (state_in l') l ≡ l'
    same_list = list_of_kept h l' l fine kept' kept long

    none_done : r.done ≡ 0 → l' ≡ l
    none_done z =
        let u : state_in l' ≡ state_in l = (λ i. (er i).state) ∙ course_none h rel (run_answer 0 accepted (state_in l) cs) (length rel / n) (sym (λ i. (er i).done) ∙ z) in
        rw u at (sym same_list) ∙ list_of_kept h l l fine kept kept refl

    picked : (b : Bool) → eqb r.done 0 ≡ b → l' ≡ pick b l (put_state h.count (state_in l') l)
    picked true g = none_done (eqb-true r.done 0 g)
    picked false g = sym same_list

    pub run_in_done : ran_in r l' ds ≡ run_in h l rel cs
    unfolding run_in
    run_in_done = rw (sym (run_is_done h (state_in l) rel cs e n en (ran_in r (state_in l') ds) er)) (ap (λ (x : List ℕ). ran_in r x ds) (picked (eqb r.done 0) refl))
