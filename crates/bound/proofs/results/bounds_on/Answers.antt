-- `bounds_on` meets its promise at each way out. Assumes nothing.
use Rattle.basis.specs.Prelude.{rules}
use Rattle.bound.proofs.Inside.Lengths.{told_true}
use Rattle.bound.proofs.Lists.{results_fit, no_room_told, results_told, not_legal_told}
use Rattle.bound.proofs.results.bounds_on.Goals as goal

pub returns-then-not-is_legal : goal.returns-then-not-is_legal
returns-then-not-is_legal c = search not_legal_told

pub overflow_mul-n : goal.overflow_mul-n
overflow_mul-n c = search results_fit

pub returns-then-results-n : goal.returns-then-results-n
returns-then-results-n c = search no_room_told

pub judge_rows-holds-requires : goal.judge_rows-holds-requires
judge_rows-holds-requires c = (search rules, search told_true, search rules)

pub returns : goal.returns
returns c = search results_told
