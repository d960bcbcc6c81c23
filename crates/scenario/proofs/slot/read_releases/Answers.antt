-- `read_releases` meets its promise. The invariant: what is still to be read, into the entries so far, is the whole. Assumes nothing.
use Rattle.basis.specs.Prelude.{◌∙◌, arith}
use Rattle.basis.proofs.Refusals.{passed_on}
use Rattle.scenario.proofs.Inside.Slotwise.{more_left, none_left, no_row, no_amount_lem, one_more}
use Rattle.scenario.proofs.slot.read_releases.Goals as goal

pub returns-in_err-row : goal.returns-in_err-row
returns-in_err-row c = rw (passed_on _ _ c.from_residual.ensures.1) (c.loop-release.invariant ∙ more_left _ _ _ _ _ _ _ c.loop-release-test.true ∙ no_row _ _ _ _ _ _ _ _ c.in_err-row.ensures.told)

pub returns-in_err-amount : goal.returns-in_err-amount
returns-in_err-amount c =
    rw (passed_on _ _ c.from_residual-in_err-amount.ensures.1)
    (no_amount_lem _ _ _ _ _ _ _ _ _ c.loop-release.invariant (omega (arith, c.loop-release-test.true)) _ _ c.in_ok-row.ensures.told _ c.budget.ensures _ c.in_err-amount.ensures)

pub loop-release-preserved : goal.loop-release-preserved
loop-release-preserved c =
    c.loop-release.invariant ∙ more_left _ _ _ _ _ _ _ c.loop-release-test.true ∙ one_more _ _ _ _ _ _ _ _ c.in_ok-row.ensures.told _ c.budget.ensures _ _ c.in_ok-amount.ensures

pub returns : goal.returns
returns c = c.loop-release.invariant ∙ none_left _ _ _ _ _ _ _ c.loop-release-test.false
