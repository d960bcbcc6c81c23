-- Demand 3 is not empty: sheets A, B, D, E and F are instances, and on sheet D a job of the lower row finishes in exactly its bound. Assumes nothing.
use Rattle.basis.specs.Prelude.{◌≡◌, refl, [], ◌∷◌}
use Rattle.green.proofs.Names.{all_of, sum, Each, first_of, upto, legal, legal_at, legal_row, bound, holds, result_of, results_to, judge, bound_by, least, sheet_a, sheet_b, sheet_d, sheet_e, sheet_f, fresh_state, legal_state, legal_job, is_zero_job, released, fits, free_below, worked, older, aged, missed, ended, code_of, free_at, check_row, check_releases, check_state, check_room, check_slot, check_run, fresh, given, next_state, next_codes, slot, slot_at, onward, course, run, fresh_of, run_done, history, release_in, code_in, NoJobIsLate, tight}
use Rattle.bound.specs.Test.{passes, amounts, amount_of, duration_of, room, q, X, x, W}
use Rattle.machine.specs.States as states
use Rattle.green.proofs.Theorem.{no_job_is_late}

-- no job of these is ever late
pub sheets_that_hold : Each NoJobIsLate (sheet_a ∷ sheet_b ∷ sheet_d ∷ sheet_e ∷ sheet_f ∷ [])
unfolding legal legal_at legal_row holds result_of results_to judge bound_by least all_of sum passes amounts amount_of duration_of room q X x W
sheets_that_hold = (
  no_job_is_late sheet_a refl refl,
  (no_job_is_late sheet_b refl refl, (no_job_is_late sheet_d refl refl, (no_job_is_late sheet_e refl refl, (no_job_is_late sheet_f refl refl, tt)))),
)

-- row 1 of sheet D has the bound 4
pub bound_of_four : result_of passes sheet_d 1 ≡ bound 4
unfolding result_of results_to judge bound_by least all_of sum passes amounts amount_of duration_of room q X x W
bound_of_four = refl

-- and a job of it that waits twice finishes in the fourth slot, and no earlier
pub finishes_in_exactly_its_bound : (release_in (history sheet_d (fresh_of sheet_d) tight) 0 1 ≡ 2)
    × (code_in (history sheet_d (fresh_of sheet_d) tight) 0 1 ≡ 1) × (code_in (history sheet_d (fresh_of sheet_d) tight) 1 1 ≡ 2)
    × (code_in (history sheet_d (fresh_of sheet_d) tight) 2 1 ≡ 1) × (code_in (history sheet_d (fresh_of sheet_d) tight) 3 1 ≡ 3)
unfolding history run_done fresh given next_state next_codes slot slot_at onward course run check_row check_releases check_state check_room check_slot check_run released fits free_below free_at worked older aged missed ended code_of fresh_state legal_state legal_job is_zero_job states.legal_record_at legal legal_at legal_row first_of upto all_of
finishes_in_exactly_its_bound = (refl, refl, refl, refl, refl)
