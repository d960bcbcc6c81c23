-- `add_next` adds one row more. Assumes nothing.
use Rattle.basis.specs.Prelude.{rules}
use Rattle.bound.proofs.Amounts.{row_above, window_small, q_of_small, capped_small, sum_fits}
use Rattle.bound.proofs.Sums.{adds_more}
use Rattle.bound.proofs.sum.add_next.Goals as goal

pub amount_above-amount-requires : goal.amount_above-amount-requires
amount_above-amount-requires c = (search row_above, search window_small, search q_of_small)

pub stay_of_row-stay-requires : goal.stay_of_row-stay-requires
stay_of_row-stay-requires c = search row_above

pub plus-requires : goal.plus-requires
plus-requires c = search (sum_fits, rules)

pub joined-requires : goal.joined-requires
joined-requires c = (search rules, search capped_small)

pub returns : goal.returns
returns c = (search adds_more, search rules)
