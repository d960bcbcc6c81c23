-- Legal jobs and states as facts, and back. Assumes nothing.
use Rattle.basis.specs.Prelude.{ℕ, ◌≤◌, ◌<◌, ◌≡◌, refl, Bool, true, false, length, get_or-eq_default, ltb, leb, ⊎_elim, arith, lt-ltb, le-ltb, le-leb, leb-true, ltb-true}
use Rattle.machine.proofs.Names.{most_rows, pick, within, both_left, both_right, both_true, at_least, at_most, within_true, all_at, all_true, lt_or_le, row_at, Row, Sheet, Job, State, record_at, legal_record_at, legal_state, no_record, has_job, legal_job, is_zero}

-- a job that is legal for its row
pub record LegalJob (row : Row) (j : Job) : Type 0 where
  pub some_since : 1 ≤ j.since
  pub most_since : j.since ≤ row.separation
  pub most_remaining : j.remaining ≤ row.budget
  pub in_time : 1 ≤ j.remaining → j.since < row.deadline

pub legal_job_is : (row : Row) (j : Job) → legal_job row j ≡ true → LegalJob row j
unfolding legal_job
legal_job_is row j e =
    let since = both_left (within 1 row.separation j.since) _ e in
    let rest = both_right (within 1 row.separation j.since) _ e in
    let late = both_right (leb j.remaining row.budget) _ rest in
    record {
      some_since = at_least 1 row.separation j.since since;
      most_since = at_most 1 row.separation j.since since;
      most_remaining = leb-true _ _ (both_left (leb j.remaining row.budget) _ rest);
      in_time = λ l. ltb-true _ _ (rw (lt-ltb 0 j.remaining l) at late);
    }

pub legal_job_says : (row : Row) (j : Job) → LegalJob row j → legal_job row j ≡ true
unfolding legal_job
legal_job_says row j r =
    both_true _ _ (within_true 1 row.separation j.since r.some_since r.most_since)
    (both_true _ _ (le-leb _ _ r.most_remaining) (late (has_job j) refl)) where
      late : (t : Bool) → has_job j ≡ t → pick t (ltb j.since row.deadline) true ≡ true
      late true e = lt-ltb _ _ (r.in_time (ltb-true 0 j.remaining e))
      late false e = refl

-- a state that is legal for a sheet: each row's record is, and those past them are zero
pub record LegalState (h : Sheet) (t : State) : Type 0 where
  pub rows : (k : ℕ) → k < h.count → LegalJob (row_at h k) (record_at t k).job
  pub past : (k : ℕ) → h.count ≤ k → k < most_rows → is_zero (record_at t k) ≡ true

module _ (h : Sheet) (t : State) (fit : h.count ≤ most_rows) where
  pub legal_state_is : legal_state h t ≡ true → LegalState h t
  unfolding legal_state legal_record_at
  legal_state_is e =
      record {
        rows = λ k l. legal_job_is (row_at h k) (record_at t k).job (rw (lt-ltb k h.count l) at (all_at most_rows (legal_record_at h t) e k (omega arith)));
        past = λ k l m. rw (le-ltb k h.count l) at (all_at most_rows (legal_record_at h t) e k m);
      }

  pub legal_state_says : LegalState h t → legal_state h t ≡ true
  unfolding legal_state legal_record_at
  legal_state_says r =
      all_true most_rows (legal_record_at h t)
      (λ k m. ⊎_elim (λ l. rw (lt-ltb k h.count l) (legal_job_says (row_at h k) (record_at t k).job (r.rows k l))) (λ l. rw (le-ltb k h.count l) (r.past k l m)) (lt_or_le k h.count))

-- a legal state has a record for each row
pub legal_state_long : (h : Sheet) (t : State) → LegalState h t → h.count ≤ length t.rows
legal_state_long h t r =
    let e = get_or-eq_default t.rows no_record {n = length t.rows} (omega arith) in
    ⊎_elim (λ l. absurd (omega (arith, rw e at (r.rows (length t.rows) l).some_since))) (λ l. l) (lt_or_le (length t.rows) h.count)
