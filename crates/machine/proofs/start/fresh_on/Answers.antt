-- `fresh_on` meets its promise. Assumes nothing.
use Rattle.machine.proofs.Inside.FreshLists.{cleared_long, fresh_on_10, fresh_on_15, fresh_on_written}
use Rattle.basis.proofs.Refusals.{passed_on}
use Rattle.machine.proofs.start.fresh_on.Goals as goal

pub returns-in_err-sheet : goal.returns-in_err-sheet
returns-in_err-sheet c = rw (passed_on _ _ c.from_residual.ensures.1) (fresh_on_10 _ _ _ _ c.in_err-sheet.ensures.told)

pub returns-then-list-sheet : goal.returns-then-list-sheet
returns-then-list-sheet c = rw (← c.in_ok-sheet.ensures.own) (fresh_on_15 _ _ c.in_ok-sheet.sheet.fine _ c.in_ok-sheet.sheet.counted c.if-list-sheet.true)

pub put_fresh-requires : goal.put_fresh-requires
put_fresh-requires c = search cleared_long

pub returns : goal.returns
returns c = rw (← c.in_ok-sheet.ensures.own) (fresh_on_written _ _ c.in_ok-sheet.sheet.fine _ c.in_ok-sheet.sheet.counted _ _ c.if-list-sheet.false c.clear_from.ensures c.put_fresh.ensures)
