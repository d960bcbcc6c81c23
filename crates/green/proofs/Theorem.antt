-- Demand 3: on a legal sheet whose first n rows have bounds, all of them where it holds, from a fresh machine, whatever calls follow: their jobs are finished within their bounds, and none is late. Assumes nothing.
use Rattle.basis.specs.Prelude.{ℕ, ◌+◌, ◌-◌, ◌≤◌, ◌<◌, ◌≡◌, sym, ◌∙◌, true, List, arith, replicate, length-replicate, le-ltb}
use lib.IntN.{pos}
use Rattle.green.proofs.Names.{most_rows, upto_below, row_at, legal, Sheet, passes, is_bound, value_of, result_of, holds, passes_local, bound_all, record_at, fresh_at, fresh_state, Job, no_record, fresh, margin_of, Reached, Call, fresh_of, history, state_after_all, NoJobIsLateTo, NoJobIsLate, Bounded}
use Rattle.sheet.proofs.Legality.{legal_is}
use Rattle.machine.proofs.Inside.Differences.{less_twice}
use Rattle.green.specs.Inside.Model as model
use Rattle.green.proofs.Sheets.{rows_of, ranges, safe}
use Rattle.green.proofs.Soundness.{within_bound}
use Rattle.green.proofs.Slots.{moment_of}
use Rattle.green.proofs.Inside.Ends.{chain_in_time, chain_leads}
use Rattle.green.proofs.Histories.{history_chain}

module _ (h : Sheet) (fine : legal h ≡ true) where
  fresh_is : fresh_of h ≡ fresh_state h
  unfolding fresh
  fresh_is = rw fine

  fresh_record : (k : ℕ) → k < h.count → record_at (fresh_of h) k ≡ fresh_at h k
  unfolding fresh_state
  fresh_record k l =
      rw fresh_is (upto_below h.count (fresh_at h) (replicate most_rows no_record) no_record k l (omega (arith, (legal_is h fine).at_most_rows, length-replicate most_rows no_record)))

  module _ (n : ℕ) (up : Bounded h n) where
    fresh_leads : Reached (rows_of h n) (moment_of (fresh_of h))
    fresh_leads = model.fresh (λ i l. let e = fresh_record i (omega (arith, up.within)) in (λ j. (e j).job.remaining, λ j. (e j).job.since))

    -- demand 3 of the first n rows
    pub no_job_is_late_to : NoJobIsLateTo n h
    no_job_is_late_to calls =
        chain_in_time h (legal_is h fine) n up (history h (fresh_of h) calls) (fresh_of h) (state_after_all h (fresh_of h) calls) (history_chain h (fresh_of h) calls) fresh_leads

    -- in every state that calls lead to, what remains of a job and the slots since its release make its bound at most
    pub within_its_bound : (calls : List Call) (k : ℕ) → k < n → 1 ≤ (record_at (state_after_all h (fresh_of h) calls) k).job.remaining
        → (record_at (state_after_all h (fresh_of h) calls) k).job.since + (record_at (state_after_all h (fresh_of h) calls) k).job.remaining ≤ (value_of (result_of passes h k)).0
    within_its_bound calls k l x =
        within_bound (rows_of h n) (ranges h (legal_is h fine) n up) (safe h (legal_is h fine) n up)
        (chain_leads h (legal_is h fine) n up (history h (fresh_of h) calls) (fresh_of h) (state_after_all h (fresh_of h) calls) (history_chain h (fresh_of h) calls) fresh_leads) k l x

    -- so its margin is not negative
    pub margin_is_not_negative : (calls : List Call) (k : ℕ) → k < n → 1 ≤ (record_at (state_after_all h (fresh_of h) calls) k).job.remaining
        → (z : ℕ) × (margin_of (row_at h k) (record_at (state_after_all h (fresh_of h) calls) k).job ≡ pos z)
    unfolding margin_of
    margin_is_not_negative calls k l x =
        let j : Job = (record_at (state_after_all h (fresh_of h) calls) k).job in
        let D : ℕ = (row_at h k).deadline in
        let late : j.since + j.remaining ≤ D = omega (arith, within_its_bound calls k l x, (ranges h (legal_is h fine) n up k l).high) in
        (D - (j.since + j.remaining), less_twice D j.since j.remaining ∙ simp (le-ltb D (j.since + j.remaining) late))

  -- a sheet that holds: all its rows have bounds
  pub all_bounded : holds passes h ≡ true → Bounded h h.count
  unfolding holds
  all_bounded all = record { within = omega arith; all = all }

  -- demand 3
  pub no_job_is_late : holds passes h ≡ true → NoJobIsLate h
  no_job_is_late all = no_job_is_late_to h.count (all_bounded all)

  -- a row that has a bound: so have those above it, and no job of these or of itself is late, whatever stands below
  pub no_job_above_is_late : (k : ℕ) → k < h.count → is_bound (result_of passes h k) ≡ true → NoJobIsLateTo (k + 1) h
  no_job_above_is_late k l b = no_job_is_late_to (k + 1) (record { within = omega arith; all = sym (bound_all passes passes_local h k) ∙ b })
