-- `bounds` meets its promise: the sheet comes back from the list that it is put into, and its results from theirs. Assumes nothing.
use Rattle.basis.specs.Prelude.{rules, ap, List}
use Rattle.sheet.proofs.Inside.Cells.{unmapped}
use Rattle.bound.proofs.Names.{accepted, passed_on, Word}
use Rattle.bound.proofs.Inside.Rows.{answered, answered_no}
use Rattle.bound.proofs.results.bounds.Goals as goal

pub returns-in_err-holds : goal.returns-in_err-holds
returns-in_err-holds c = rw (passed_on _ _ c.from_residual.ensures.1) (answered_no _ _ _ _ c.put_sheet.ensures (search rules) (search (unmapped, rules)) _ _ c.in_err-holds.ensures)

pub returns : goal.returns
returns c = answered _ _ _ _ c.put_sheet.ensures (search rules) (search (unmapped, rules)) _ _ _ c.in_ok-holds.ensures (ap (λ (ws : List Word). (accepted, c.in_ok-holds.holds, ws)) c.rows_of-rows.ensures)
