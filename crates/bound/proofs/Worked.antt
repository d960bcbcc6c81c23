-- Cases A to F hold of the definitions. Assumes nothing.
use Rattle.basis.specs.Prelude.{refl}
use Rattle.bound.proofs.Names.{all_of, sum, Each, upto, legal_row, legal_at, legal, fixed_sheet, q, X, x, W, duration_of, amount_of, amounts, room, passes, least, bound_by, judge, results_to, result_of, holds, bounds_by}
use Rattle.bound.specs.Cases.{cases, Right}

pub cases_are_right : Each Right cases
unfolding fixed_sheet all_of sum upto legal_row legal_at legal q X x W duration_of amount_of amounts room passes least bound_by judge results_to result_of holds bounds_by
cases_are_right = (refl, (refl, (refl, (refl, (refl, (refl, tt))))))
