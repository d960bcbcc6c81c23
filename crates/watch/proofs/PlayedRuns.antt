-- Slots that are played one by one in a list print the text of the run. Assumes nothing.
use Rattle.basis.specs.Prelude.{ℕ, zero, suc, ◌≡◌, refl, ap, ◌∙◌, List, ◌++◌, take, drop, replicate}
use Rattle.watch.proofs.Names.{most_rows, Sheet, State, state_in, slot_in, state_long, fresh_on, FreshAnswer, fresh, slot_in_state, fresh_of_zeros, end_line, line_buffer, no_codes, going_on, played_slot, run_text, played_text}
use Rattle.watch.proofs.LineLengths.{slot_is_printed}

-- The text of a run is the line of its first slot, as it is played in the list, and then the text of the rest from the list after it.
pub run_text_goes_on : (h : Sheet) (l rel : List ℕ) (k slots : ℕ)
    → run_text h (state_in l) rel k (suc slots)
    ≡ take (played_slot h l (take h.count rel) k line_buffer).long (played_slot h l (take h.count rel) k line_buffer).text
    ++ going_on (played_slot h l (take h.count rel) k line_buffer).outcome (run_text h (state_in (played_slot h l (take h.count rel) k line_buffer).state) (drop h.count rel) (suc k) slots)
unfolding run_text played_slot slot_in
run_text_goes_on h l rel k slots =
    let now : List ℕ = take h.count rel in
    let printed = slot_is_printed (played_slot h l now k line_buffer).text (played_slot h l now k line_buffer).long h l now k (played_slot h l now k line_buffer).outcome (played_slot h l now k line_buffer).state refl in
    rw (printed, slot_in_state h l now no_codes)

none_left : (h : Sheet) (t : State) (rel : List ℕ) (k : ℕ) → end_line k ≡ run_text h t rel k zero
unfolding run_text
none_left h t rel k = refl

-- So what is printed slot by slot is the text of the run,
pub played_text_is : (h : Sheet) (l rel : List ℕ) (k slots : ℕ) → played_text h l rel k slots ≡ run_text h (state_in l) rel k slots
unfolding played_text
played_text_is h l rel k zero = none_left h (state_in l) rel k
played_text_is h l rel k (suc slots) = rw (run_text_goes_on h l rel k slots, played_text_is h (played_slot h l (take h.count rel) k line_buffer).state (drop h.count rel) (suc k) slots)

-- and from a fresh list it is that of the box from fresh.
pub played_from_fresh : (h : Sheet) (rel : List ℕ) (slots : ℕ) → played_text h (fresh_on h (replicate (state_long most_rows) 0)).state rel 0 slots ≡ run_text h (fresh h).state rel 0 slots
played_from_fresh h rel slots =
    played_text_is h (fresh_on h (replicate (state_long most_rows) 0)).state rel 0 slots ∙ ap (λ (a : FreshAnswer State). run_text h a.state rel 0 slots) (fresh_of_zeros h)
