-- The text of a run tells what the run answers: the codes of each slot done, how many they are, and the refusal. Assumes nothing.
use Rattle.basis.specs.Prelude.{ℕ, zero, suc, ◌+◌, ◌*◌, ◌/◌, ◌%◌, ◌≤◌, ◌<◌, ◌≡◌, refl, sym, ap, ◌∙◌, List, ◌++◌, append-nil, append_assoc, arith, add-zero, zero-add, add-one, length, take, drop, length-append, length-drop, length-take-le, length-replicate, get_or-take, ext_get_or, eqb, le-leb, div-add-mod'}
use lib.Seq.{drop-drop}
use Rattle.watch.proofs.Names.{most_rows, Outcome, accepted, refused, upto, upto_below, length_upto, Sheet, State, code, check_slot, check_room, check_state, check_run, SlotAnswer, RunAnswer, slot_answer, run_answer, given, next_codes, slot, entries_of, slot_at, onward, course, run, no_codes, slot_line, refused_slot, line_of, going_on, run_text, lines_of, last_line, answer_text}
use Rattle.machine.proofs.Inside.Courses.{followed, idle}
use Rattle.basis.proofs.Inside.FirstRefusal.{both_accepted}
use Rattle.basis.proofs.Refusals.{room_holds}
use Rattle.basis.specs.Refusals.{needed}
use Rattle.machine.proofs.Inside.Answers.{run_in_order_shows}
use Rattle.machine.proofs.Inside.Entries.{entries_here, entries_there}
use Rattle.machine.proofs.SlotsDone.{refused_leaves}
use Rattle.watch.proofs.Inside.Slots.{codes_long}

-- ---- a slot on any buffer that has room

-- lists that are filled from the front begin alike
filled_alike : (n : ℕ) (f : ℕ → ℕ) (cs ds : List ℕ) → n ≤ length cs → n ≤ length ds → take n (upto n f cs) ≡ take n (upto n f ds)
filled_alike n f cs ds a b =
    let c : length (take n (upto n f cs)) ≡ n = length-take-le n (upto n f cs) (omega (arith, length_upto n f cs)) in
    let d : length (take n (upto n f ds)) ≡ n = length-take-le n (upto n f ds) (omega (arith, length_upto n f ds)) in
    ext_get_or 0 (take n (upto n f cs)) (take n (upto n f ds)) (c ∙ sym d) (λ i l.
    let m : i < n = omega arith in
    rw (get_or-take n (upto n f cs) i 0 m, get_or-take n (upto n f ds) i 0 m, upto_below n f cs 0 i m a, upto_below n f ds 0 i m b))

module _ (h : Sheet) (t : State) (rs cs ds : List ℕ) (long : length rs ≡ h.count) (a : h.count ≤ length cs) (b : h.count ≤ length ds) where
  same_check : check_slot h t rs (length cs) ≡ check_slot h t rs (length ds)
  unfolding check_slot check_room
  same_check = rw (le-leb (length rs) (length cs) (omega arith), le-leb (length rs) (length ds) (omega arith))

  same_state : (slot h t rs cs).state ≡ (slot h t rs ds).state
  unfolding slot
  same_state = rw same_check

  -- and so is its line
  same_line : (k : ℕ) (o : Outcome) → (slot h t rs cs).outcome ≡ o → line_of h.count k o (slot h t rs cs).codes ≡ line_of h.count k o (slot h t rs ds).codes
  unfolding slot line_of next_codes
  same_line k accepted e = rw (sym same_check, e) (ap (slot_line k) (filled_alike h.count (code (given h t rs)) cs ds a b))
  same_line k (refused number row) e = refl

-- ---- the lines of slots whose codes are the same

lines_alike : (n : ℕ) (cs ds : List ℕ) (d : ℕ) → ((i : ℕ) → i < d → entries_of n i cs ≡ entries_of n i ds) → lines_of n cs d ≡ lines_of n ds d
unfolding lines_of
lines_alike n cs ds zero h = refl
lines_alike n cs ds (suc d) h = rw (lines_alike n cs ds d (λ i l. h i (omega arith)), h d (omega arith))

-- ---- one slot more

module _ (h : Sheet) (few : h.count ≤ most_rows) (rel : List ℕ) (j : ℕ) (u : State) (ds : List ℕ) (enough : j * h.count + h.count ≤ length rel) (room : j * h.count + h.count ≤ length ds) where
  abbrev n : ℕ
  n = h.count

  abbrev own : List ℕ
  own = entries_of n j rel

  abbrev rest : List ℕ
  rest = drop (j * n) ds

  own_long : length own ≡ n
  own_long = length-take-le n (drop (j * n) rel) (omega (arith, length-drop (j * n) rel))

  rest_long : n ≤ length rest
  rest_long = omega (arith, length-drop (j * n) ds)

  codes_room : n ≤ length no_codes
  codes_room = omega (arith, length-replicate {A = ℕ} most_rows 0)

  same_outcome : (slot h u own no_codes).outcome ≡ (slot h u own rest).outcome
  unfolding slot
  same_outcome = same_check h u own no_codes rest own_long codes_room rest_long

  -- the text from here is the slot's line, and the text from the next
  text_next : (o : Outcome) → (slot h u own rest).outcome ≡ o → (m : ℕ)
      → run_text h u (drop (j * n) rel) j (suc m) ≡ line_of n j o (slot h u own rest).codes ++ going_on o (run_text h (slot h u own rest).state (drop (suc j * n) rel) (suc j) m)
  unfolding run_text
  text_next o e m =
      let far : j * n + n ≡ suc j * n = omega arith in
      let q : (slot h u own no_codes).outcome ≡ o = same_outcome ∙ e in
      rw (q, same_line h u own no_codes rest own_long codes_room rest_long j o q, same_state h u own no_codes rest own_long codes_room rest_long, drop-drop n (j * n) rel, far)

  lines_next : lines_of n (slot_at h u rel ds j).codes (suc j) ≡ lines_of n ds j ++ slot_line j (take n (slot h u own rest).codes)
  unfolding lines_of slot_at
  lines_next =
      rw (entries_here n j ds (omega arith) (slot h u own rest).codes, lines_alike n (take (j * n) ds ++ (slot h u own rest).codes) ds j (entries_there n j ds (omega arith) (slot h u own rest).codes))

  as_long : length (slot_at h u rel ds j).codes ≡ length ds
  unfolding slot_at
  as_long = omega (arith, length-append (take (j * n) ds) (slot h u own rest).codes, length-take-le (j * n) ds (omega arith), codes_long h u own rest, length-drop (j * n) ds)

  text_accepted : (slot_at h u rel ds j).outcome ≡ accepted → (m : ℕ)
      → lines_of n ds j ++ run_text h u (drop (j * n) rel) j (suc m) ≡ lines_of n (slot_at h u rel ds j).codes (suc j) ++ run_text h (slot_at h u rel ds j).state (drop (suc j * n) rel) (suc j) m
  unfolding line_of slot_at
  text_accepted e m = rw (text_next accepted e m, lines_next) (sym (append_assoc (lines_of n ds j) (slot_line j (take n (slot h u own rest).codes)) _))

  text_refused : (p q : ℕ) → (slot_at h u rel ds j).outcome ≡ refused p q → (m : ℕ) → lines_of n ds j ++ run_text h u (drop (j * n) rel) j (suc m) ≡ lines_of n ds j ++ refused_slot j p q
  unfolding line_of slot_at
  text_refused p q e m = rw (text_next (refused p q) e m, append-nil)

-- ---- the slots one after another

-- after j slots: each is done and the text goes on from there, or one was refused and the text has ended
data Told (h : Sheet) (t : State) (rel : List ℕ) (long j : ℕ) (c : RunAnswer State) : Type 0 where
  going : (u : State) (ds : List ℕ) → c ≡ run_answer j accepted u ds → length ds ≡ long
      → ((m : ℕ) → run_text h t rel 0 (j + m) ≡ lines_of h.count ds j ++ run_text h u (drop (j * h.count) rel) j m) → Told h t rel long j c
  ended : (i : ℕ) (u : State) (ds : List ℕ) (a b : ℕ) → c ≡ run_answer i (refused a b) u ds → ((m : ℕ) → run_text h t rel 0 (j + m) ≡ lines_of h.count ds i ++ refused_slot i a b) → Told h t rel long j c

module _ (h : Sheet) (few : h.count ≤ most_rows) (t : State) (rel : List ℕ) (long : ℕ) where
  later : (j m : ℕ) (x : List ℕ) → run_text h t rel 0 (j + suc m) ≡ x → run_text h t rel 0 (suc j + m) ≡ x
  later j m x e = let s : suc j + m ≡ j + suc m = omega arith in ap (run_text h t rel 0) s ∙ e

  told_more : (j : ℕ) (c : RunAnswer State) → j * h.count + h.count ≤ length rel → j * h.count + h.count ≤ long → Told h t rel long j c → Told h t rel long (suc j) (onward h rel j c)
  unfolding onward
  told_more j c enough room (going u ds e l f) = rw e (go (slot_at h u rel ds j).outcome refl)
    where
      inside : j * h.count + h.count ≤ length ds
      inside = omega arith

      go : (o : Outcome) → (slot_at h u rel ds j).outcome ≡ o → Told h t rel long (suc j) (followed j (slot_answer o (slot_at h u rel ds j).state (slot_at h u rel ds j).codes))
      go accepted q =
          going (slot_at h u rel ds j).state (slot_at h u rel ds j).codes (ap (λ (k : ℕ). run_answer k accepted (slot_at h u rel ds j).state (slot_at h u rel ds j).codes) (add-one j))
          (as_long h few rel j u ds enough inside ∙ l) (λ m. later j m _ (f (suc m) ∙ text_accepted h few rel j u ds enough inside q m))
      go (refused a b) q =
          ended j u ds a b (ap (λ (x : SlotAnswer State). run_answer j (refused a b) x.state x.codes) (refused_leaves h u rel ds j a b q))
          (λ m. later j m _ (f (suc m) ∙ text_refused h few rel j u ds enough inside a b q m))
  told_more j c enough room (ended i u ds a b e f) =
      ended i u ds a b (idle h rel j c a b (ap (λ (x : RunAnswer State). x.outcome) e) ∙ e) (λ m. later j m _ (f (suc m)))

  told_at : (cs : List ℕ) → length cs ≡ long → (j : ℕ) → j * h.count ≤ length rel → j * h.count ≤ long → Told h t rel long j (course h rel (run_answer 0 accepted t cs) j)
  unfolding course lines_of
  told_at cs l zero enough room = let none : 0 * h.count ≡ 0 = omega arith in going t cs refl l (λ m. rw (none, zero-add))
  told_at cs l (suc j) enough room = told_more j (course h rel (run_answer 0 accepted t cs) j) (omega arith) (omega arith) (told_at cs l j (omega arith) (omega arith))

  -- at the end
  told_all : (j : ℕ) (c : RunAnswer State) → Told h t rel long j c → run_text h t rel 0 j ≡ answer_text h.count c
  unfolding answer_text last_line run_text
  told_all j c (going u ds e l f) = ap (run_text h t rel 0) (sym (add-zero j)) ∙ f 0 ∙ rw e
  told_all j c (ended i u ds a b e f) = ap (run_text h t rel 0) (sym (add-zero j)) ∙ f 0 ∙ rw e

-- a run whose checks pass has room for its codes
run_room : (h : Sheet) (t : State) (rel : List ℕ) (room : ℕ) → check_run h t rel room ≡ accepted → length rel ≤ room
unfolding check_run check_room
run_room h t rel room e =
    let (_, b) = both_accepted (check_state h t) _ e in
    let (_, q) = both_accepted (needed (eqb (length rel % h.count) 0) 11) _ b in
    room_holds (length rel) room q

-- The text of a run whose checks pass is that of its answer.
pub run_text_is : (h : Sheet) (t : State) (rel cs : List ℕ) → check_run h t rel (length cs) ≡ accepted → run_text h t rel 0 (length rel / h.count) ≡ answer_text h.count (run h t rel cs)
unfolding run
run_text_is h t rel cs e =
    let shown = run_in_order_shows h t rel (length cs) e in
    let room = run_room h t rel (length cs) e in
    let slots : length rel / h.count * h.count ≤ length rel = omega (arith, div-add-mod' (length rel) h.count) in
    rw e (told_all h shown.at_most_rows t rel (length cs) (length rel / h.count) _ (told_at h shown.at_most_rows t rel (length cs) cs refl (length rel / h.count) slots (omega arith)))
