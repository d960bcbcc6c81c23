-- Sheets that are equal in m, n and rows 0 to n - 1 get equal answers of every function: rows past n are not looked at. Assumes nothing.
use Rattle.basis.specs.Prelude.{ℕ, zero, suc, ◌<◌, ◌≡◌, refl, ap, ◌∙◌, List, ⊎_elim, get_or, replicate, arith, le_refl, lt-ltb, le-ltb}
use Rattle.machine.proofs.Names.{most_rows, Outcome, accepted, refused, or_else, all_same, lt_or_le, first_same, no_row, row_at, legal_row, legal, legal_at, Row, Sheet, State, record_at, fresh_at, fresh_state, legal_record_at, legal_state, no_record, next, code, check_row, check_at, check_releases, check_state, check_slot, check_run, check_margin, RunAnswer, fresh, given, next_state, next_codes, slot, slot_at, onward, course, run, MarginAnswer, margin_by, margin, upto_agree}
use Rattle.machine.proofs.Agree.{AgreeTo, next_agrees, code_agrees}

-- equal in m, n and rows 0 to n - 1
pub record Alike (h h' : Sheet) : Type 0 where
  pub processors : h.processors ≡ h'.processors
  pub count : h.count ≡ h'.count
  pub rows : (i : ℕ) → i < h.count → row_at h i ≡ row_at h' i

-- the margin of a row that is not there
past_told : (o : Outcome) (x y : MarginAnswer) → margin_by (or_else o (refused 14 0)) x ≡ margin_by (or_else o (refused 14 0)) y
past_told accepted x y = refl
past_told (refused a b) x y = refl

-- a sheet with other rows
abbrev with_rows : Sheet → List Row → Sheet
with_rows h rows = record { processors = h.processors; count = h.count; rows = rows }

module _ (h : Sheet) (rows : List Row) (same : (i : ℕ) → i < h.count → row_at h i ≡ get_or rows i no_row) where
  legal_alike : legal h ≡ legal (with_rows h rows)
  unfolding legal legal_at
  legal_alike = rw (all_same h.count (legal_at h) (legal_at (with_rows h rows)) (λ i l. ap (legal_row h.processors) (same i l)))

  fresh_alike : fresh h ≡ fresh (with_rows h rows)
  unfolding fresh fresh_state
  fresh_alike = rw (legal_alike, upto_agree h.count (fresh_at h) (fresh_at (with_rows h rows)) (replicate most_rows no_record) (λ i l. rw (same i l)))

  state_alike : (t : State) → legal_state h t ≡ legal_state (with_rows h rows) t
  unfolding legal_state legal_record_at
  state_alike t =
      all_same most_rows (legal_record_at h t) (legal_record_at (with_rows h rows) t)
      (λ i b. ⊎_elim (λ l. rw (lt-ltb i h.count l, same i l)) (λ l. rw (le-ltb i h.count l)) (lt_or_le i h.count))

  check_alike : (t : State) → check_state h t ≡ check_state (with_rows h rows) t
  unfolding check_state
  check_alike t = rw (legal_alike, state_alike)

  margin_alike : (t : State) (k : ℕ) → margin h t k ≡ margin (with_rows h rows) t k
  unfolding margin check_margin
  margin_alike t k =
      ⊎_elim (λ l. rw (check_alike, same k l)) (λ l. rw (le-ltb k h.count l, check_alike) (past_told (check_state (with_rows h rows) t) _ _)) (lt_or_le k h.count)

  releases_alike : (t : State) (rel : List ℕ) → check_releases h t rel ≡ check_releases (with_rows h rows) t rel
  unfolding check_releases
  releases_alike t rel =
      first_same h.count (check_at h t rel) (check_at (with_rows h rows) t rel) (λ i l. ap (λ (row : Row). check_row row (record_at t i) (get_or rel i 0) i) (same i l))

  agree_below : (t : State) (rel : List ℕ) (i : ℕ) → i < h.count → AgreeTo i (given h t rel) (given (with_rows h rows) t rel)
  unfolding given
  agree_below t rel i l = record { processors = refl; rows = λ k b. same k (omega arith); records = λ k b. refl; releases = λ k b. refl }

  slot_alike : (t : State) (rel cs : List ℕ) → slot h t rel cs ≡ slot (with_rows h rows) t rel cs
  unfolding slot check_slot next_state next_codes
  slot_alike t rel cs =
      rw (
        check_alike,
        releases_alike,
        upto_agree h.count (next (given h t rel)) (next (given (with_rows h rows) t rel)) t.rows (λ i l. next_agrees i _ _ (agree_below t rel i l) i (le_refl i)),
        upto_agree h.count (code (given h t rel)) (code (given (with_rows h rows) t rel)) cs (λ i l. code_agrees i _ _ (agree_below t rel i l) i (le_refl i)),
      )

  onward_alike : (rel : List ℕ) (j : ℕ) (c : RunAnswer State) → onward h rel j c ≡ onward (with_rows h rows) rel j c
  unfolding onward slot_at
  onward_alike rel j c = rw slot_alike

  course_alike : (rel : List ℕ) (c : RunAnswer State) (j : ℕ) → course h rel c j ≡ course (with_rows h rows) rel c j
  unfolding course
  course_alike rel c zero = refl
  course_alike rel c (suc j) = rw (onward_alike, course_alike rel c j)

  run_alike : (t : State) (rel cs : List ℕ) → run h t rel cs ≡ run (with_rows h rows) t rel cs
  unfolding run check_run
  run_alike t rel cs = rw (check_alike, course_alike)

-- every answer
module _ (h h' : Sheet) (a : Alike h h') where
  rows_too : with_rows h h'.rows ≡ h'
  rows_too = λ i. record { processors = a.processors i; count = a.count i; rows = h'.rows }

  pub fresh_past_rows : fresh h ≡ fresh h'
  fresh_past_rows = rw (fresh_alike h h'.rows a.rows, rows_too)

  pub slot_past_rows : (t : State) (rel cs : List ℕ) → slot h t rel cs ≡ slot h' t rel cs
  slot_past_rows t rel cs = slot_alike h h'.rows a.rows t rel cs ∙ ap (λ (x : Sheet). slot x t rel cs) rows_too

  pub run_past_rows : (t : State) (rel cs : List ℕ) → run h t rel cs ≡ run h' t rel cs
  run_past_rows t rel cs = run_alike h h'.rows a.rows t rel cs ∙ ap (λ (x : Sheet). run x t rel cs) rows_too

  pub margin_past_rows : (t : State) (k : ℕ) → margin h t k ≡ margin h' t k
  margin_past_rows t k = margin_alike h h'.rows a.rows t k ∙ ap (λ (x : Sheet). margin x t k) rows_too
