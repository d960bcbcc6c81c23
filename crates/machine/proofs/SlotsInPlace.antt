-- The slot in place: what each turn and each way out shows, in the words of its invariant and of what it calls. Assumes nothing.
use Rattle.basis.specs.Prelude.{ℕ, ◌+◌, ◌*◌, ◌-◌, ◌≤◌, ◌<◌, ◌≡◌, refl, sym, ap, ◌∙◌, true, List, length, get_or, set, take, drop, arith, le_refl, add-one}
use borrow.Rule.Slice.PartMut.{put_mid}
use Rattle.machine.proofs.Names.{accepted, refused, upto, upto_set, row_at, legal, Sheet, legal_is, record_of, State, record_at, legal_state, free_at, free, next, code, check_releases, check_slot, slot_answer, given, next_state, next_codes, slot_at, record_in, state_in, put_record, put_to, put_state, slot_in}
use Rattle.records.specs.declared.steps.Placed.{Placed}
use Rattle.records.specs.Methods.{begun_row, stepped_row}
use Rattle.machine.proofs.Inside.Answers.{slot_state, slot_is_refused, slot_is_accepted}
use Rattle.machine.proofs.Inside.Courses.{slot_at_accepted}
use Rattle.machine.proofs.Inside.LegalSlots.{next_at, next_legal}
use Rattle.machine.proofs.Inside.Legals.{legal_state_is, legal_state_says}
use Rattle.machine.proofs.LegalLists.{kept_spare, kept_long, kept_record}
use Rattle.machine.proofs.Inside.RecordLists.{put_record_past, put_more, put_agree, state_put}

-- a row's step is its part of the slot: what it leaves free, its record, and its code
module _ (h : Sheet) (t : State) (rel : List ℕ) (k : ℕ) (r : Placed) (er : r ≡ stepped_row (row_at h k) (record_at t k).job (get_or rel k 0) (free (given h t rel) k)) where
  pub stepped_free : r.free ≡ free (given h t rel) (k + 1)
  unfolding free_at stepped_row begun_row given
  stepped_free = rw (add-one, er)

  pub stepped_next : record_of r.after ≡ next (given h t rel) k
  unfolding stepped_row begun_row given
  stepped_next = rw er

  pub stepped_code : r.code ≡ code (given h t rel) k
  unfolding stepped_row begun_row given
  stepped_code = rw er

-- `step_rows`: a turn
module _ (h : Sheet) (l₀ l rel : List ℕ) (fine : legal h ≡ true) (kept : legal_state h (state_in l₀) ≡ true) (f i : ℕ) (below : i < h.count)
    (ef : f ≡ free (given h (state_in l₀) rel) i) (so_far : l ≡ put_to i (next (given h (state_in l₀) rel)) l₀)
    (r : Placed) (er : r ≡ stepped_row (row_at h i) (record_in l i).job (get_or rel i 0) f) where
  here_stepped : r ≡ stepped_row (row_at h i) (record_at (state_in l₀) i).job (get_or rel i 0) (free (given h (state_in l₀) rel) i)
  here_stepped =
      rw (so_far, put_record_past (next (given h (state_in l₀) rel)) l₀ i i (le_refl i), kept_record h l₀ fine kept i below, ef) at er

  pub free_moves : r.free ≡ free (given h (state_in l₀) rel) (i + 1)
  free_moves = stepped_free h (state_in l₀) rel i r here_stepped

  pub list_moves : (l' : List ℕ) → l' ≡ put_record l i (record_of r.after) → l' ≡ put_to (i + 1) (next (given h (state_in l₀) rel)) l₀
  list_moves l' e = e ∙ put_more i (next (given h (state_in l₀) rel)) l l₀ (record_of r.after) so_far (stepped_next h (state_in l₀) rel i r here_stepped)

  pub codes_move : (cs cs₀ : List ℕ) → cs ≡ upto i (code (given h (state_in l₀) rel)) cs₀ → set cs i r.code ≡ upto (i + 1) (code (given h (state_in l₀) rel)) cs₀
  codes_move cs cs₀ e = upto_set i (code (given h (state_in l₀) rel)) cs cs₀ r.code e (stepped_code h (state_in l₀) rel i r here_stepped)

-- and its end
pub codes_done : (h : Sheet) (t : State) (rel cs cs₀ : List ℕ) → cs ≡ upto h.count (code (given h t rel)) cs₀ → cs ≡ next_codes h t rel cs₀
unfolding next_codes
codes_done h t rel cs cs₀ e = e

-- the list after a slot whose checks have passed
module _ (h : Sheet) (l rel : List ℕ) (fine : legal h ≡ true) (kept : legal_state h (state_in l) ≡ true) (n : ℕ) (en : n ≡ h.count)
    (l' : List ℕ) (moved : l' ≡ put_to n (next (given h (state_in l) rel)) l) where
  pub moved_state : state_in l' ≡ next_state h (state_in l) rel
  unfolding next_state
  moved_state =
      rw (moved, state_put n (next (given h (state_in l) rel)) l (kept_spare h l fine kept) (omega (arith, (legal_is h fine).at_most_rows)) (kept_long h l fine kept n en), en)

  pub moved_legal : check_releases h (state_in l) rel ≡ accepted → legal_state h (state_in l') ≡ true
  moved_legal e =
      let w = legal_is h fine in
      rw moved_state (legal_state_says h _ w.at_most_rows (next_legal h (state_in l) rel (legal_state_is h (state_in l) w.at_most_rows kept) w e))

  pub moved_list : l' ≡ put_state h.count (next_state h (state_in l) rel) l
  unfolding put_state
  moved_list =
      rw (moved, en)
      (put_agree h.count _ _ l (λ k b. sym (next_at h (state_in l) rel (legal_state_is h (state_in l) (legal_is h fine).at_most_rows kept) k b)))

-- the state that a list hands over which the next state is put into
pub moved_back : (h : Sheet) (l rel : List ℕ) → legal h ≡ true → legal_state h (state_in l) ≡ true → state_in (put_state h.count (next_state h (state_in l) rel) l) ≡ next_state h (state_in l) rel
moved_back h l rel fine kept = rw (sym (moved_list h l rel fine kept h.count refl _ refl)) (moved_state h l rel fine kept h.count refl _ refl)

-- `slot_part`
module _ (h : Sheet) (l rel cs : List ℕ) (j n : ℕ) (en : n ≡ h.count) (fine : legal h ≡ true) (kept : legal_state h (state_in l) ≡ true)
    (list : j * n + n ≤ length rel) (buffer : j * n + n ≤ length cs) (e : accepted ≡ check_releases h (state_in l) (take (j * n + n - j * n) (drop (j * n) rel)))
    (l' : List ℕ) (moved : l' ≡ put_to n (next (given h (state_in l) (take (j * n + n - j * n) (drop (j * n) rel)))) l) where
  pub part_accepted : (ds : List ℕ) → ds ≡ next_codes h (state_in l) (take (j * n + n - j * n) (drop (j * n) rel)) (take (length cs - j * n) (drop (j * n) cs))
      → slot_answer accepted (state_in l') (put_mid (j * n) (length cs - j * n) cs ds) ≡ slot_at h (state_in l) rel cs j
  part_accepted ds ed = slot_at_accepted h (state_in l) rel cs j n en fine kept list buffer _ ds e (moved_state h l _ fine kept n en l' moved) ed

  pub part_legal : legal_state h (state_in l') ≡ true
  part_legal = moved_legal h l _ fine kept n en l' moved (sym e)

-- `slot_on`
module _ (h : Sheet) (l rel cs : List ℕ) where
  pub slot_in_refused : (a b : ℕ) → refused a b ≡ check_slot h (state_in l) rel (length cs) → slot_answer (refused a b) l cs ≡ slot_in h l rel cs
  unfolding slot_in
  slot_in_refused a b e = rw (sym (slot_is_refused h (state_in l) rel cs a b e))

  pub slot_in_accepted : legal h ≡ true → accepted ≡ check_slot h (state_in l) rel (length cs) → (n : ℕ) → n ≡ h.count → (l' ds : List ℕ) → l' ≡ put_to n (next (given h (state_in l) rel)) l → ds ≡ next_codes h (state_in l) rel cs
      → slot_answer accepted l' ds ≡ slot_in h l rel cs
  unfolding slot_in
  slot_in_accepted fine e n en l' ds moved ed =
      let kept = slot_state h (state_in l) rel (length cs) e in
      rw (sym (slot_is_accepted h (state_in l) rel cs e _ ds refl ed)) (ap (λ (x : List ℕ). slot_answer accepted x ds) (moved_list h l rel fine kept n en l' moved))
