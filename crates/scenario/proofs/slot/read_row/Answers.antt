-- `read_row` meets its promise. Assumes nothing.
use Rattle.basis.specs.Prelude.{arith}
use Rattle.basis.proofs.Refusals.{passed_on}
use Rattle.scenario.proofs.Inside.Slotwise.{row_none, row_past, row_again, row_read}
use Rattle.scenario.proofs.slot.read_row.Goals as goal

pub returns-in_err-number-clause-told : goal.returns-in_err-number-clause-told
returns-in_err-number-clause-told c = rw (passed_on _ _ c.from_residual.ensures.1) (row_none _ _ _ _ _ _ c.in_err-number.ensures)

pub returns-then-rows-row-clause-told : goal.returns-then-rows-row-clause-told
returns-then-rows-row-clause-told c = row_past _ _ _ _ _ _ c.in_ok-number.ensures (omega (arith, c.args.rows.now.counted))

pub returns-then-row-least-clause-told : goal.returns-then-row-least-clause-told
returns-then-row-least-clause-told c = row_again _ _ _ _ _ _ c.in_ok-number.ensures (omega (arith, c.args.rows.now.counted)) c.if-row-least.true

pub returns-clause-told : goal.returns-clause-told
returns-clause-told c = row_read _ _ _ _ _ _ c.in_ok-number.ensures (omega (arith, c.args.rows.now.counted)) c.if-row-least.false
