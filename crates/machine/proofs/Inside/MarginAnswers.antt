-- What is told of a margin, from the answers of what `margin` calls. Assumes nothing.
use Rattle.basis.specs.Prelude.{ℕ, ◌+◌, ◌≤◌, ◌<◌, ◌≡◌, refl, sym, List, length, arith, lt-ltb, le-ltb, w64}
use lib.IntN.{◌-ℤ◌}
use mir.Val.{SFits, to_z, of_z}
use mir.ValLaws.{to_z-of_z}
use Rattle.machine.proofs.Names.{most_separation, accepted, refused, row_at, LegalRow, Row, Sheet, legal_is, Job, RowState, record_at, check_state, check_margin, MarginAnswer, no_job, margin_is, refused_margin, margin_of, margin_at, margin, record_in, state_long, state_in}
use Rattle.machine.proofs.LegalLists.{kept_long, kept_record}
use Rattle.machine.proofs.Inside.Checks.{Ready, ready}
use Rattle.machine.proofs.Inside.Differences.{themselves, difference_fits, less_twice}
use Rattle.machine.proofs.Inside.Legals.{LegalJob, legal_state_is}

-- `margin_of`
pub margin_none : (row : Row) (s : Job) → s.remaining ≡ 0 → no_job ≡ margin_at row s
unfolding margin_at
margin_none row s z = rw z

pub margin_fits : (row : Row) (s : Job) → row.deadline ≤ most_separation → s.since ≤ most_separation → s.remaining ≤ most_separation
    → SFits w64 (to_z w64 row.deadline -ℤ to_z w64 (s.since + s.remaining))
margin_fits row s a b c = difference_fits row.deadline (s.since + s.remaining) a (omega arith)

pub margin_some : (row : Row) (s : Job) → row.deadline ≤ most_separation → s.since ≤ most_separation → s.remaining ≤ most_separation → (s.remaining ≡ 0 → ⊥)
    → margin_is (to_z w64 (of_z w64 (to_z w64 row.deadline -ℤ to_z w64 (s.since + s.remaining)))) ≡ margin_at row s
unfolding margin_at margin_of
margin_some row s a b c l =
    rw (lt-ltb 0 s.remaining (omega arith), to_z-of_z w64 _ (margin_fits row s a b c), themselves row.deadline (s.since + s.remaining) a (omega arith), less_twice)

-- `margin_on`
module _ (h : Sheet) (l : List ℕ) (k : ℕ) where
  pub margin_unchecked : (a b : ℕ) → refused a b ≡ check_state h (state_in l) → refused_margin a b ≡ margin h (state_in l) k
  unfolding margin check_margin
  margin_unchecked a b e = rw (sym e)

  module _ (e : accepted ≡ check_state h (state_in l)) where
    pub margin_missing : h.count ≤ k → refused_margin 14 0 ≡ margin h (state_in l) k
    unfolding margin check_margin
    margin_missing m = rw (sym e, le-ltb k h.count m)

    module _ (there : k < h.count) where
      checked : Ready h (state_in l)
      checked = ready h (state_in l) (sym e)

      row_is : LegalRow h.processors (row_at h k)
      row_is = (legal_is h checked.sheet_legal).rows k there

      pub margin_record_there : state_long (k + 1) ≤ length l
      margin_record_there = omega (arith, kept_long h l checked.sheet_legal checked.state_legal h.count refl)

      pub small_deadline : (row : Row) → row ≡ row_at h k → row.deadline ≤ most_separation
      small_deadline row er = rw er (omega (arith, row_is.at_most_deadline, row_is.at_most_separation))

      -- the record of the row stands in the list
      module _ (x : RowState) (ex : x ≡ record_in l k) where
        is_job : x.job ≡ (record_at (state_in l) k).job
        is_job = rw (ex, kept_record h l checked.sheet_legal checked.state_legal k there)

        job_is : LegalJob (row_at h k) x.job
        job_is = rw is_job ((legal_state_is h (state_in l) checked.at_most_rows checked.state_legal).rows k there)

        pub listed_since : x.job.since ≤ most_separation
        listed_since = omega (arith, row_is.at_most_separation, job_is.most_since)

        pub listed_remaining : x.job.remaining ≤ most_separation
        listed_remaining = omega (arith, row_is.at_most_budget, row_is.at_most_deadline, row_is.at_most_separation, job_is.most_remaining)

        pub listed_margin : (row : Row) → row ≡ row_at h k → (a : MarginAnswer) → a ≡ margin_at row x.job → a ≡ margin h (state_in l) k
        unfolding margin check_margin
        listed_margin row er a g = rw (sym e, lt-ltb k h.count there) (rw (er, is_job) at g)
