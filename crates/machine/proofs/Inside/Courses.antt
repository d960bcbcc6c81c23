-- A run's course: slot j of a list on parts of the list and the buffer, one slot more, and a course that has stopped. Assumes nothing.
use Rattle.basis.specs.Prelude.{ℕ, zero, suc, ◌+◌, ◌*◌, ◌-◌, ◌≤◌, ◌<◌, ◌≡◌, sym, ap, ◌∙◌, true, List, ◌++◌, append-nil, length, take, drop, length-drop, take-append-drop, drop_of_length-le, length-take-le, take_all, arith, mul-le-mul_right, add-zero, zero-add, add-suc, add-one, le-leb, eq-eqb}
use borrow.Rule.Slice.PartMut.{put_mid}
use Rattle.machine.proofs.Names.{pick, Outcome, accepted, refused, is_accepted, legal, Sheet, State, legal_state, check_releases, check_state, check_room, check_slot, SlotAnswer, RunAnswer, slot_answer, run_answer, next_state, next_codes, slot, entries_of, slot_at, onward, course}

-- slot j of a list
module _ (h : Sheet) (t : State) (rel cs : List ℕ) (j n : ℕ) (en : n ≡ h.count) (fine : legal h ≡ true) (kept : legal_state h t ≡ true)
    (list : j * n + n ≤ length rel) (buffer : j * n + n ≤ length cs) where
  part_is : take (j * n + n - j * n) (drop (j * n) rel) ≡ entries_of n j rel
  part_is = let e : j * n + n - j * n ≡ n = omega arith in rw e

  part_long : length (entries_of n j rel) ≡ n
  part_long = length-take-le n (drop (j * n) rel) (omega (arith, length-drop (j * n) rel))

  rest_is : take (length cs - j * n) (drop (j * n) cs) ≡ drop (j * n) cs
  rest_is = take_all (length cs - j * n) (drop (j * n) cs) (omega (arith, length-drop (j * n) cs))

  pub part_holds : n ≤ length (take (j * n + n - j * n) (drop (j * n) rel))
  part_holds = rw part_is (omega (arith, part_long))

  pub rest_holds : n ≤ length (take (length cs - j * n) (drop (j * n) cs))
  rest_holds = rw rest_is (omega (arith, length-drop (j * n) cs))

  check_is : check_slot h t (entries_of n j rel) (length (drop (j * n) cs)) ≡ check_releases h t (entries_of n j rel)
  unfolding check_slot check_state check_room
  check_is =
      rw (fine, kept, eq-eqb (length (entries_of n j rel)) h.count (part_long ∙ en), le-leb (length (entries_of n j rel)) (length (drop (j * n) cs)) (omega (arith, part_long, length-drop (j * n) cs)))

  abbrev part : ℕ → SlotAnswer State
  part m = let a = slot h t (entries_of m j rel) (drop (j * m) cs) in slot_answer a.outcome a.state (take (j * m) cs ++ a.codes)

  same_outcome : (o : Outcome) → o ≡ check_releases h t (take (j * n + n - j * n) (drop (j * n) rel)) → check_slot h t (entries_of n j rel) (length (drop (j * n) cs)) ≡ o
  same_outcome o e = check_is ∙ ap (check_releases h t) (sym part_is) ∙ sym e

  pub slot_at_refused : (a b : ℕ) → refused a b ≡ check_releases h t (take (j * n + n - j * n) (drop (j * n) rel)) → slot_answer (refused a b) t cs ≡ slot_at h t rel cs j
  unfolding slot slot_at
  slot_at_refused a b e =
      let so : slot_answer (refused a b) t cs ≡ part n = rw (same_outcome (refused a b) e, take-append-drop) in
      so ∙ ap part en

  pub slot_at_accepted : (u : State) (ds : List ℕ) → accepted ≡ check_releases h t (take (j * n + n - j * n) (drop (j * n) rel))
      → u ≡ next_state h t (take (j * n + n - j * n) (drop (j * n) rel))
      → ds ≡ next_codes h t (take (j * n + n - j * n) (drop (j * n) rel)) (take (length cs - j * n) (drop (j * n) cs))
      → slot_answer accepted u (put_mid (j * n) (length cs - j * n) cs ds) ≡ slot_at h t rel cs j
  unfolding slot slot_at
  slot_at_accepted u ds e eu ed =
      let over = drop_of_length-le (drop (j * n) cs) {i = length cs - j * n} (omega (arith, length-drop (j * n) cs)) in
      let so : slot_answer accepted u (put_mid (j * n) (length cs - j * n) cs ds) ≡ part n = rw (same_outcome accepted e, over, append-nil, eu, ed, part_is, rest_is) in
      so ∙ ap part en

-- a part of a run has room where the run has
pub room_for : (n j slots m : ℕ) → j < slots → slots * n ≤ m → j * n + n ≤ m
room_for n j slots m l r = omega (arith, mul-le-mul_right {m = j + 1} {n = slots} n (omega arith))

-- a run with one slot more, by that slot's answer
abbrev pub followed : ℕ → SlotAnswer State → RunAnswer State
followed done a = run_answer (pick (is_accepted a.outcome) (done + 1) done) a.outcome a.state a.codes

-- a run that was refused stays as it is
pub idle : (h : Sheet) (rel : List ℕ) (j : ℕ) (c : RunAnswer State) (a b : ℕ) → c.outcome ≡ refused a b → onward h rel j c ≡ c
unfolding onward
idle h rel j c a b e = rw e

stays : (h : Sheet) (rel : List ℕ) (c : RunAnswer State) (j i a b : ℕ) → (course h rel c j).outcome ≡ refused a b → course h rel c (j + i) ≡ course h rel c j
unfolding course
stays h rel c j zero a b e = rw add-zero
stays h rel c j (suc i) a b e = let so = stays h rel c j i a b e in rw (add-suc, so) (idle h rel (j + i) (course h rel c j) a b e)

pub stopped : (h : Sheet) (rel : List ℕ) (c : RunAnswer State) (j a b : ℕ) → c.outcome ≡ refused a b → course h rel c j ≡ c
unfolding course
stopped h rel c j a b e = rw zero-add at (stays h rel c 0 j a b e)

-- one slot more
module _ (h : Sheet) (rel : List ℕ) (first : RunAnswer State) (j : ℕ) (t : State) (cs : List ℕ)
    (so_far : course h rel first j ≡ run_answer j accepted t cs) (u : State) (ds : List ℕ) where
  one_more : (o : Outcome) → slot_answer o u ds ≡ slot_at h t rel cs j → course h rel first (suc j) ≡ followed j (slot_answer o u ds)
  unfolding course onward
  one_more o e = rw (so_far, sym e)

  pub goes_on : slot_answer accepted u ds ≡ slot_at h t rel cs j → course h rel first (j + 1) ≡ run_answer (j + 1) accepted u ds
  goes_on e = ap (course h rel first) (add-one j) ∙ one_more accepted e

  pub stops : (slots a b : ℕ) → j < slots → slot_answer (refused a b) u ds ≡ slot_at h t rel cs j → run_answer j (refused a b) u ds ≡ course h rel first slots
  stops slots a b l e =
      let here = one_more (refused a b) e in
      let far : suc j + (slots - suc j) ≡ slots = omega arith in
      sym (rw far at (stays h rel first (suc j) (slots - suc j) a b (λ i. (here i).outcome)) ∙ here)

-- the last slot is done
pub ends : (h : Sheet) (rel : List ℕ) (first : RunAnswer State) (j slots : ℕ) (t : State) (cs : List ℕ) → j ≤ slots → slots ≤ j
    → course h rel first j ≡ run_answer j accepted t cs → run_answer slots accepted t cs ≡ course h rel first slots
ends h rel first j slots t cs l m e = let s : j ≡ slots = omega arith in sym (rw s at e)
