-- `fresh` meets its promise: the fresh state in a list of zeros is the fresh state. Assumes nothing.
use Rattle.basis.proofs.Refusals.{passed_on}
use Rattle.states.proofs.Inside.ValueLists.{fresh_by_list, fresh_refused}
use Rattle.states.proofs.start.fresh.Goals as goal

pub returns-in_err-fresh_on : goal.returns-in_err-fresh_on
returns-in_err-fresh_on c = rw (passed_on _ _ c.from_residual.ensures.1) (fresh_refused _ _ c.listed.ensures _ _ _ c.in_err-fresh_on.ensures)

pub returns : goal.returns
returns c = fresh_by_list _ _ c.listed.ensures _ _ c.in_ok-fresh_on.ensures _ c.state_of.ensures
