-- `check_slot` meets its promise: none of the entries so far is over. Assumes nothing.
use Rattle.basis.specs.Prelude.{refl, arith}
use Rattle.scenario.proofs.Names.{first_of, sheet_in}
use Rattle.scenario.proofs.Inside.Checks.{entry_over, entry_fine}
use Rattle.scenario.proofs.writer.check_slot.Goals as goal

pub loop-row-init : goal.loop-row-init
unfolding first_of
loop-row-init c = refl

pub returns-then-budget-value : goal.returns-then-budget-value
returns-then-budget-value c =
    entry_over (sheet_in c.args.rows.now.sheet.now) _ _ (omega (arith, c.args.rows.now.counted)) c.loop-row.invariant _ c.budget.ensures c.loop-row-test.true c.if-budget-value.true

pub loop-row-preserved : goal.loop-row-preserved
loop-row-preserved c =
    entry_fine (sheet_in c.args.rows.now.sheet.now) _ _ (omega (arith, c.args.rows.now.counted)) c.loop-row.invariant _ c.budget.ensures c.if-budget-value.false
