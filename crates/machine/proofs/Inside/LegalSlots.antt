-- Legal states are kept: fresh is legal, and from a legal state an accepted slot gives a legal state. Assumes nothing.
use Rattle.basis.specs.Prelude.{ℕ, zero, suc, ◌≤◌, ◌<◌, ◌≡◌, refl, ◌∙◌, Bool, List, ⊎_elim, get_or, replicate, length-replicate, get_or-replicate, arith, le_refl}
use Rattle.machine.proofs.Names.{most_rows, accepted, lt_or_le, first_at, upto_below, upto_past, row_at, Legal, LegalRow, Row, Sheet, Job, RowState, State, record_at, fresh_at, fresh_state, no_record, is_zero_job, released, worked, older, aged, ended, begun, runs, next, check_row, check_at, check_releases, given, next_state, released_none, released_some, release_allowed, worked_near, older_below, older_within, ended_at, ended_less}
use Rattle.machine.proofs.Inside.Legals.{LegalJob, LegalState, legal_state_long}

-- a job after step 1
record BegunJob (row : Row) (s : Job) : Type 0 where
  pub most_since : s.since ≤ row.separation
  pub most_remaining : s.remaining ≤ row.budget
  pub in_time : 1 ≤ s.remaining → s.since < row.deadline

begun_legal : (m : ℕ) (row : Row) (s : RowState) (r k : ℕ) → LegalRow m row → LegalJob row s.job → check_row row s r k ≡ accepted → BegunJob row (released r s.job)
begun_legal m row s zero k w l e = rw released_none (record { most_since = l.most_since; most_remaining = l.most_remaining; in_time = l.in_time })
begun_legal m row s (suc r) k w l e =
    rw (released_some (suc r) s.job (omega arith))
    (record { most_since = omega arith; most_remaining = (release_allowed row s (suc r) k (omega arith) e).0; in_time = λ j. omega (arith, w.some_deadline) })

-- and at the end of the slot
row_legal : (m : ℕ) (row : Row) (s : Job) (ran : Bool) → LegalRow m row → BegunJob row s → LegalJob row (ended row (aged row (worked ran s)))
unfolding aged worked ended
row_legal m row s ran w b =
    let since = older_within row.separation s.since w.some_separation in
    let less = ended_less row (aged row (worked ran s)) in
    let near = worked_near ran s in
    record {
      some_since = since.0;
      most_since = since.1;
      most_remaining = omega (arith, b.most_remaining);
      in_time = λ j.
          let soon = b.in_time (omega arith) in
          let next = older_below row.separation s.since (omega (arith, w.at_most_deadline)) in
          ⊎_elim (λ l. l) (λ l. absurd (omega (arith, ended_at row (aged row (worked ran s)) (omega arith)))) (lt_or_le (older row.separation s.since) row.deadline);
    }

-- from a legal state an accepted slot gives a legal state
module _ (h : Sheet) (t : State) (rel : List ℕ) (l : LegalState h t) where
  pub next_at : (k : ℕ) → k < h.count → record_at (next_state h t rel) k ≡ next (given h t rel) k
  unfolding next_state
  next_at k b = upto_below h.count (next (given h t rel)) t.rows no_record k b (legal_state_long h t l)

  pub next_legal : Legal h → check_releases h t rel ≡ accepted → LegalState h (next_state h t rel)
  unfolding check_releases given next_state
  next_legal w e =
      record {
        rows = λ k b. rw (next_at k b)
            (row_legal h.processors (row_at h k) (begun (given h t rel) k) (runs (given h t rel) k) (w.rows k b)
            (begun_legal h.processors (row_at h k) (record_at t k) (get_or rel k 0) k (w.rows k b) (l.rows k b) (first_at h.count (check_at h t rel) e k b)));
        past = λ k b m. rw (upto_past h.count (next (given h t rel)) t.rows no_record k b) (l.past k b m);
      }

-- fresh is legal
pub fresh_legal : (h : Sheet) → Legal h → LegalState h (fresh_state h)
unfolding fresh_state is_zero_job
fresh_legal h w =
    record {
      rows = λ k b. rw (upto_below h.count (fresh_at h) (replicate most_rows no_record) no_record k b (rw length-replicate w.at_most_rows))
          (record { some_since = (w.rows k b).some_separation; most_since = le_refl (row_at h k).separation; most_remaining = omega arith; in_time = λ j. absurd (omega arith) });
      past = λ k b m. rw (upto_past h.count (fresh_at h) (replicate most_rows no_record) no_record k b ∙ get_or-replicate most_rows k no_record no_record m) refl;
    }
