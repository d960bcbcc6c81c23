-- One slot that is played, from what the machine answers and what its line's functions say. Assumes nothing.
use Rattle.basis.specs.Prelude.{ℕ, ◌≤◌, ◌≡◌, refl, sym, ap, ◌∙◌, List, length, take, length-take-le, arith}
use Rattle.watch.proofs.Names.{Outcome, accepted, refused, length_upto, Sheet, State, code, state_in, slot_in, check_slot, slot_answer, SlotAnswer, given, next_state, next_codes, slot_by, slot, slot_shows, Page, said, said_is_written, written_in_room, slot_line, refused_slot, line_of, no_codes, play_answer, played_slot}

-- the code buffer after a slot is as long as before it
pub codes_long : (h : Sheet) (t : State) (rel cs : List ℕ) → length (slot h t rel cs).codes ≡ length cs
unfolding slot next_codes
codes_long h t rel cs = go (check_slot h t rel (length cs))
  where
    go : (o : Outcome) → length (slot_by o (next_state h t rel, next_codes h t rel cs) (t, cs)).codes ≡ length cs
    go accepted = length_upto h.count (code (given h t rel)) cs
    go (refused a b) = refl

module _ (h : Sheet) (l rel buffer : List ℕ) (k : ℕ) (l' ds : List ℕ) where
  -- a refused slot
  pub play_refused : (a b : ℕ) → slot_answer (refused a b) l' ds ≡ slot_in h l rel no_codes → (q : Page) → q ≡ said (buffer, 0) (refused_slot k a b) → play_answer (refused a b) l' q ≡ played_slot h l rel k buffer
  unfolding played_slot line_of
  play_refused a b e q g = rw (sym e) (ap (play_answer (refused a b) l') (said_is_written q _ buffer g))

  -- a slot that is done: the codes of its rows are in the buffer
  module _ (e : slot_answer accepted l' ds ≡ slot_in h l rel no_codes) (n : ℕ) (en : n ≡ h.count) where
    pub codes_there : n ≤ length ds
    unfolding slot_in slot
    codes_there =
        let o : check_slot h (state_in l) rel (length no_codes) ≡ accepted = sym (λ i. (e i).outcome) in
        let d : length ds ≡ length no_codes = ap (λ (x : SlotAnswer (List ℕ)). length x.codes) e ∙ codes_long h (state_in l) rel no_codes in
        let shown = slot_shows h (state_in l) rel (length no_codes) o in
        omega (arith, shown.long, shown.roomy)

    pub codes_part : n ≡ length (take n ds)
    codes_part = sym (length-take-le n ds codes_there)

    pub play_accepted : (q : Page) → q ≡ said (buffer, 0) (slot_line k (take n ds)) → play_answer accepted l' q ≡ played_slot h l rel k buffer
    unfolding played_slot line_of
    play_accepted q g = rw (sym e, sym en) (ap (play_answer accepted l') (said_is_written q _ buffer g))

-- the line is in its buffer
module _ (h : Sheet) (l rel : List ℕ) (k : ℕ) (buffer : List ℕ) (o : Outcome) (l' after : List ℕ) (n : ℕ) (e : play_answer o l' (after, n) ≡ played_slot h l rel k buffer) where
  pub played_in_room : n ≤ length after
  unfolding played_slot
  played_in_room = written_in_room _ buffer after n (λ i. ((e i).text, (e i).long))

  pub played_part : n ≡ length (take n after)
  played_part = sym (length-take-le n after played_in_room)
