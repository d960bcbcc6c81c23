-- `judge_row` is the result of a row, by those above. Assumes nothing.
use Rattle.basis.specs.Prelude.{rules}
use Rattle.bound.proofs.Inside.Rows.{ready, judged_reached, judged_unreached}
use Rattle.bound.proofs.judge.judge_row.Goals as goal

pub invariant_of-bound_of-clause-ready : goal.invariant_of-bound_of-clause-ready
invariant_of-bound_of-clause-ready c = ready _ c.args.results.now _ c.args.reached (search rules) (search rules) (search rules) (search rules)

pub returns-then-reached : goal.returns-then-reached
returns-then-reached c = search judged_reached

pub returns : goal.returns
returns c = search judged_unreached
