-- `judge_rows` judges every row: the loop has the results of the first i rows, and whether each is a bound. Assumes nothing.
use Rattle.basis.specs.Prelude.{rules}
use Rattle.bound.proofs.Names.{legal_is}
use Rattle.bound.proofs.Inside.Rows.{lists_are_lent, so_far_none, so_far_long, rows_above, so_far_more, still_lent, holds_told, results_put}
use Rattle.bound.proofs.judge.judge_rows.Goals as goal

pub loop-i-init : goal.loop-i-init
loop-i-init c = (search rules, search legal_is, search lists_are_lent, search so_far_none)

pub judge_row-result-requires : goal.judge_row-result-requires
judge_row-result-requires c = (search rules, search rules, search rules, search (rows_above, rules))

pub loop-i-preserved : goal.loop-i-preserved
loop-i-preserved c = (search rules, search rules, search still_lent, search so_far_more)

pub shape_of-results : goal.shape_of-results
shape_of-results c = search so_far_long

pub returns : goal.returns
returns c = (search holds_told, search results_put)
