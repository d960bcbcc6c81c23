-- The box's own loop: what it begins with, a slot on parts of the list and the buffer, and the end of its course. Assumes nothing.
use Rattle.basis.specs.Prelude.{ℕ, ◌+◌, ◌*◌, ◌-◌, ◌/◌, ◌≤◌, ◌<◌, ◌^◌, ◌≡◌, refl, sym, ap, ap₂, ◌∙◌, Bool, true, false, List, ◌++◌, append-nil, length, take, drop, length-drop, drop_of_length-le, take_all, arith}
use Rattle.basis.specs.Refusals.{needed}
use Rattle.basis.specs.Words.{pick}
use Rattle.sheet.specs.Legal.{legal}
use Rattle.aboard.proofs.Names.{Outcome, accepted, refused, handed, Sheet, check_run, check_state, FreshAnswer, SlotAnswer, slot_answer, run_answer, fresh_answer, fresh, slot, entries_of, slot_at, course, run, run_list, run_buffer}
use borrow.Rule.Slice.PartMut.{put_mid}
use Rattle.machine.specs.States.{State, fresh_state, no_state}
use Rattle.machine.proofs.SlotsDone.{run_not_begun}
use Rattle.machine.proofs.Inside.Courses.{room_for}

-- where there is no fresh state the checks of the run refuse by the same
pub box_shut : (h : Sheet) (a b : ℕ) → fresh_answer (refused a b) no_state ≡ fresh h → (rel cs : List ℕ) → run_answer 0 (refused a b) no_state cs ≡ run h (fresh h).state rel cs
unfolding fresh check_run check_state
box_shut h a b e rel cs = ap (λ (t : State). run_answer 0 (refused a b) t cs) (λ i. (e i).state) ∙ sym (run_not_begun h (fresh h).state rel cs a b (go (legal h) refl e))
  where
    go : (t : Bool) → legal h ≡ t → fresh_answer (refused a b) no_state ≡ fresh_answer (needed t 10) (pick t (fresh_state h) no_state) → check_run h (fresh h).state rel (length cs) ≡ refused a b
    go true l f = let z : refused a b ≡ accepted = λ i. (f i).outcome in cc
    go false l f = rw l (λ i. (sym f i).outcome)

module _ (h : Sheet) (t : State) (begun : fresh_answer accepted t ≡ fresh h) (rel cs : List ℕ) where
  -- a run that its checks refuse
  pub box_refused : (a b : ℕ) → refused a b ≡ check_run h t rel (length cs) → run_answer 0 (refused a b) t cs ≡ run h (fresh h).state rel cs
  box_refused a b e = sym (run_not_begun h t rel cs a b (sym e)) ∙ ap (λ (x : FreshAnswer State). run h x.state rel cs) begun

  -- and one that they pass is its course
  pub box_course : accepted ≡ check_run h t rel (length cs) → course h rel (run_answer 0 accepted t cs) (length rel / h.count) ≡ run h (fresh h).state rel cs
  unfolding run
  box_course e = ap (λ (o : Outcome). course h rel (run_answer 0 o t cs) (length rel / h.count)) e ∙ ap (λ (x : FreshAnswer State). run h x.state rel cs) begun

-- slot j of so many has its place in the list and in the buffer, and what the code computes of it fits a word
pub record Place (n j : ℕ) (rel cs now : List ℕ) : Type 0 where
  pub in_list : j * n + n ≤ length rel
  pub in_buffer : j * n ≤ length cs
  pub in_codes : j * n ≤ length now
  pub small_place : j * n < 2 ^ 64
  pub small_count : n < 2 ^ 64
  pub small_rest : length cs - j * n < 2 ^ 64

-- a run that its checks refuse has no slot to do; of one that they pass each slot has its place
pub place_begun : (h : Sheet) (t : State) (rel cs now : List ℕ) (o : Outcome) → o ≡ check_run h t rel (length cs) → (j : ℕ) → j < (handed o (length rel / h.count) 0).1
    → length now ≡ length cs → length rel < 2 ^ 64 → length cs < 2 ^ 64 → Place h.count j rel cs now
place_begun h t rel cs now accepted e j l c f g =
    let p = room_for h.count j (length rel / h.count) (length rel) l (run_list h t rel (length cs) e h.count) in
    let q = room_for h.count j (length rel / h.count) (length cs) l (run_buffer h t rel (length cs) e h.count) in
    record { in_list = p; in_buffer = omega arith; in_codes = omega arith; small_place = omega arith; small_count = omega arith; small_rest = omega arith }
place_begun h t rel cs now (refused a b) e j l c f g = absurd (omega (arith, l))

-- a slot of the loop, on its own entries and on the buffer from its place on, is slot j of the list
pub slot_at_is : (h : Sheet) (t : State) (rel cs : List ℕ) (j : ℕ) (o : Outcome) (u : State) (zs : List ℕ)
    → slot_answer o u zs ≡ slot h t (take (j * h.count + h.count - j * h.count) (drop (j * h.count) rel)) (take (length cs - j * h.count) (drop (j * h.count) cs))
    → slot_answer o u (put_mid (j * h.count) (length cs - j * h.count) cs zs) ≡ slot_at h t rel cs j
unfolding slot_at
slot_at_is h t rel cs j o u zs e =
    let a = j * h.count in
    let part : take (a + h.count - a) (drop a rel) ≡ entries_of h.count j rel = (let n : a + h.count - a ≡ h.count = omega arith in rw n) in
    let rest : take (length cs - a) (drop a cs) ≡ drop a cs = take_all (length cs - a) (drop a cs) (omega (arith, length-drop a cs)) in
    let over : zs ++ drop (length cs - a) (drop a cs) ≡ zs = ap (λ (l : List ℕ). zs ++ l) (drop_of_length-le (drop a cs) {i = length cs - a} (omega (arith, length-drop a cs))) ∙ append-nil zs in
    ap (λ (l : List ℕ). slot_answer o u (take a cs ++ l)) over ∙ ap (λ (x : SlotAnswer State). slot_answer x.outcome x.state (take a cs ++ x.codes)) (e ∙ ap₂ (slot h t) part rest)
