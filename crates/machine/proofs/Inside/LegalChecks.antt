-- The check in place that the state in a list is legal: a turn of its loop, and each way out. Assumes nothing.
use Rattle.basis.specs.Prelude.{ℕ, ◌+◌, ◌*◌, ◌<◌, ◌≡◌, sym, ap, ◌∙◌, Bool, true, false, List, length, arith}
use Rattle.machine.proofs.Names.{most_rows, all_of, all_one_more, all_at, true_not_false, row_at, legal, Sheet, not_so, record_at, legal_state, is_zero_job, legal_record, record_wide, record_in, state_long, zero_from, spare_is_zero, state_in}
use Rattle.machine.proofs.Inside.Legals.{legal_job_is, legal_job_says, legal_state_is, legal_state_says}
use Rattle.machine.proofs.Inside.RecordLists.{record_in_state}
use Rattle.machine.proofs.LegalLists.{few, kept_record, past_is_zero, missing_records_are_refused}
use Rattle.machine.proofs.Inside.Zeros.{all_zero, each_zero}

-- the records of a list's rows so far are legal
unfoldable pub legal_in : Sheet → List ℕ → ℕ → Bool
legal_in h l k = legal_record (row_at h k) (record_in l k)

-- `is_legal_in`
module _ (h : Sheet) (l : List ℕ) (fine : legal h ≡ true) where
  pub legal_in_short : length l < state_long h.count → false ≡ legal_state h (state_in l)
  legal_in_short a = sym (missing_records_are_refused h l fine a)

  -- a turn of its loop
  module _ (i : ℕ) (below : i < h.count) where
    pub legal_in_fails : false ≡ legal_record (row_at h i) (record_in l i) → false ≡ legal_state h (state_in l)
    legal_in_fails e = sym (not_so (legal_state h (state_in l)) λ k.
        let t = legal_job_says (row_at h i) (record_at (state_in l) i).job ((legal_state_is h (state_in l) (few h l fine) k).rows i below) in
        true_not_false (sym t ∙ sym (ap (legal_record (row_at h i)) (kept_record h l fine k i below)) ∙ sym e))

  pub legal_in_done : true ≡ all_of h.count (legal_in h l) → (r : Bool) → r ≡ zero_from (state_long h.count) l → r ≡ legal_state h (state_in l)
  unfolding is_zero_job record_in legal_in
  legal_in_done so_far false e = sym (not_so (legal_state h (state_in l)) (λ k. true_not_false (sym (all_zero (state_long h.count) l (λ j b m. past_is_zero h l fine k j m)) ∙ sym e)))
  legal_in_done so_far true e =
      let zero = each_zero (state_long h.count) l (sym e) in
      let spare : spare_is_zero l ≡ true = all_zero (state_long most_rows) l (λ j y m. zero j (omega (arith, few h l fine))) in
      sym (legal_state_says h (state_in l) (few h l fine) (record {
        rows = λ k m. rw (record_in_state l k spare (omega (arith, few h l fine))) (legal_job_is (row_at h k) (record_in l k).job (all_at h.count (legal_in h l) (sym so_far) k m));
        past = λ k m y. rw (record_in_state l k spare y, zero (k * record_wide) (omega arith), zero (k * record_wide + 1) (omega arith));
      }))

pub legal_in_more : (h : Sheet) (l : List ℕ) (i : ℕ) → true ≡ all_of i (legal_in h l) → true ≡ legal_record (row_at h i) (record_in l i) → true ≡ all_of (i + 1) (legal_in h l)
unfolding legal_in
legal_in_more h l i so_far e = rw (all_one_more, sym so_far, sym e)
