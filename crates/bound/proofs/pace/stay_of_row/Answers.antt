-- `stay_of_row` is how long a row above keeps pace. Assumes nothing.
use Rattle.basis.specs.Prelude.{rules}
use Rattle.bound.proofs.Durations.{spans, span_small, stay_fits, stay_is}
use Rattle.bound.proofs.pace.stay_of_row.Goals as goal

pub work_of-W-requires : goal.work_of-W-requires
work_of-W-requires c = search spans

pub left-ran-requires : goal.left-ran-requires
left-ran-requires c = (search rules, search rules, search span_small)

pub plus-requires : goal.plus-requires
plus-requires c = search (stay_fits, rules)

pub returns : goal.returns
returns c = search stay_is
