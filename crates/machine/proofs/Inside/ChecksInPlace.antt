-- The checks in place: of a sheet and a state, and of the releases, in the words of the loop over them. Assumes nothing.
use Rattle.basis.specs.Prelude.{ℕ, ◌+◌, ◌<◌, ◌≡◌, sym, true, false, List, get_or}
use Rattle.machine.proofs.Names.{accepted, refused, needed, first_of, row_at, legal, Sheet, State, legal_state, check_row, check_at, check_releases, check_state, record_in, state_in, first_more, first_found}
use Rattle.machine.proofs.LegalLists.{kept_record}

-- `check_releases_in`: a turn of its loop
module _ (h : Sheet) (l rel : List ℕ) (fine : legal h ≡ true) (kept : legal_state h (state_in l) ≡ true) (i : ℕ) (below : i < h.count)
    (so_far : first_of i (check_at h (state_in l) rel) ≡ accepted) where
  pub check_in_more : accepted ≡ check_row (row_at h i) (record_in l i) (get_or rel i 0) i → first_of (i + 1) (check_at h (state_in l) rel) ≡ accepted
  check_in_more e = first_more i (check_at h (state_in l) rel) so_far (sym (rw (kept_record h l fine kept i below) at e))

  pub check_in_found : (a b : ℕ) → refused a b ≡ check_row (row_at h i) (record_in l i) (get_or rel i 0) i → refused a b ≡ check_releases h (state_in l) rel
  unfolding check_releases
  check_in_found a b e = sym (first_found h.count i (check_at h (state_in l) rel) a b below so_far (sym (rw (kept_record h l fine kept i below) at e)))

-- and its end
pub check_done : (h : Sheet) (t : State) (rel : List ℕ) → first_of h.count (check_at h t rel) ≡ accepted → accepted ≡ check_releases h t rel
unfolding check_releases
check_done h t rel e = sym e

-- `checked`
module _ (h : Sheet) (t : State) where
  pub in_10 : (a b : ℕ) → refused a b ≡ needed (legal h) 10 → refused a b ≡ check_state h t
  unfolding check_state
  in_10 a b e = rw (sym e)

  pub in_16 : legal h ≡ true → legal_state h t ≡ false → refused 16 0 ≡ check_state h t
  unfolding check_state
  in_16 e f = rw (e, f)

  pub in_order : legal h ≡ true → legal_state h t ≡ true → accepted ≡ check_state h t
  unfolding check_state
  in_order e f = rw (e, f)
