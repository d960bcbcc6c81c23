-- Wrong rules for one row are shut out: on a row of sheet C, or one with an early deadline, no answer with the fault meets the promise. Assumes nothing.
use Rattle.basis.specs.Prelude.{refl, arith}
use Rattle.basis.specs.Faults.{NoneMeets}
use Rattle.basis.proofs.Faults.{apart, number_of, bit}
use Rattle.records.proofs.Names.{Job, Placed, Aged, legal_record, legal_job, released, fits, free_below, worked, older, aged, missed, ended, code_of, check_row, placed_row, aged_row, begun_row, stepped_row}
use Rattle.records.specs.Wrong.{upper_c, lower_c, early, job_of, rec, thirteen_first, soon_by_deadline, one_soon, late_is_legal, no_slot_is_legal, release_lost, since_kept, every_job_runs, stops_at_unfit, missed_first, rest_kept, since_goes_on, stepped_unreleased, stepped_idle}

-- ---- `check_row`

-- a release of 2 in row 0 of sheet C, one slot after the last: both over its budget and too soon
pub thirteen_first_is_shut_out : NoneMeets (thirteen_first upper_c (rec 0 1) 2 0) (check_row upper_c (rec 0 1) 2 0)
unfolding thirteen_first check_row
thirteen_first_is_shut_out = apart number_of _ _ 13 12 refl refl (λ e. omega arith)

-- past the early deadline, and before the separation
pub soon_by_deadline_is_shut_out : NoneMeets (soon_by_deadline early (rec 0 3) 1 0) (check_row early (rec 0 3) 1 0)
unfolding soon_by_deadline check_row
soon_by_deadline_is_shut_out = apart number_of _ _ 0 13 refl refl (λ e. omega arith)

-- one slot before the separation
pub one_soon_is_shut_out : NoneMeets (one_soon lower_c (rec 0 3) 1 0) (check_row lower_c (rec 0 3) 1 0)
unfolding one_soon check_row
one_soon_is_shut_out = apart number_of _ _ 0 13 refl refl (λ e. omega arith)

-- ---- `is_legal_record`

-- one slot of a job remains at the deadline
pub late_is_legal_is_shut_out : NoneMeets (late_is_legal lower_c (rec 1 4)) (legal_record lower_c (rec 1 4))
unfolding late_is_legal legal_job
late_is_legal_is_shut_out = apart bit _ _ 1 0 refl refl (λ e. omega arith)

-- a record of zeros
pub no_slot_is_legal_is_shut_out : NoneMeets (no_slot_is_legal lower_c (rec 0 0)) (legal_record lower_c (rec 0 0))
unfolding no_slot_is_legal legal_job
no_slot_is_legal_is_shut_out = apart bit _ _ 1 0 refl refl (λ e. omega arith)

-- ---- `released`

-- a release of 3 in a fresh row
pub release_lost_is_shut_out : NoneMeets (release_lost 3 (job_of 0 4)) (released 3 (job_of 0 4))
unfolding released
release_lost_is_shut_out = apart (λ (s : Job). s.remaining) _ _ 0 3 refl refl (λ e. omega arith)

pub since_kept_is_shut_out : NoneMeets (since_kept 3 (job_of 0 4)) (released 3 (job_of 0 4))
unfolding since_kept released
since_kept_is_shut_out = apart (λ (s : Job). s.since) _ _ 4 0 refl refl (λ e. omega arith)

-- ---- `placed`

-- row 0 of sheet C has a job, and both processors are free
pub every_job_runs_is_shut_out : NoneMeets (every_job_runs upper_c (job_of 1 0) 2) (placed_row upper_c (job_of 1 0) 2)
unfolding every_job_runs placed_row free_below fits
every_job_runs_is_shut_out = apart (λ (r : Placed). r.free) _ _ 2 0 refl refl (λ e. omega arith)

-- the same with one processor free
pub stops_at_unfit_is_shut_out : NoneMeets (stops_at_unfit upper_c (job_of 1 0) 1) (placed_row upper_c (job_of 1 0) 1)
unfolding stops_at_unfit placed_row free_below fits
stops_at_unfit_is_shut_out = apart (λ (r : Placed). r.free) _ _ 0 1 refl refl (λ e. omega arith)

-- ---- `aged`

-- a job that ran to its end in the slot in which since reaches the deadline
pub missed_first_is_shut_out : NoneMeets (missed_first lower_c (job_of 0 3) 2) (aged_row lower_c (job_of 0 3) 2)
unfolding missed_first aged_row aged older
missed_first_is_shut_out = apart (λ (r : Aged). r.code) _ _ 4 3 refl refl (λ e. omega arith)

-- the same job with one slot left of it
pub rest_kept_is_shut_out : NoneMeets (rest_kept lower_c (job_of 1 3) 2) (aged_row lower_c (job_of 1 3) 2)
unfolding rest_kept aged_row aged older ended missed
rest_kept_is_shut_out = apart (λ (r : Aged). r.after.remaining) _ _ 1 0 refl refl (λ e. omega arith)

-- a row without a job that may be released
pub since_goes_on_is_shut_out : NoneMeets (since_goes_on lower_c (job_of 0 4) 0) (aged_row lower_c (job_of 0 4) 0)
unfolding since_goes_on aged_row aged older ended
since_goes_on_is_shut_out = apart (λ (r : Aged). r.after.since) _ _ 5 4 refl refl (λ e. omega arith)

-- ---- `stepped`

-- a fresh row is released for 3, with one processor free
pub stepped_unreleased_is_shut_out : NoneMeets (stepped_unreleased lower_c (job_of 0 4) 3 1) (stepped_row lower_c (job_of 0 4) 3 1)
unfolding stepped_unreleased stepped_row begun_row released fits worked older aged missed code_of
stepped_unreleased_is_shut_out = apart (λ (r : Placed). r.code) _ _ 0 2 refl refl (λ e. omega arith)

pub stepped_idle_is_shut_out : NoneMeets (stepped_idle lower_c (job_of 0 4) 3 1) (stepped_row lower_c (job_of 0 4) 3 1)
unfolding stepped_idle stepped_row begun_row released fits worked older aged missed ended
stepped_idle_is_shut_out = apart (λ (r : Placed). r.after.remaining) _ _ 3 2 refl refl (λ e. omega arith)
