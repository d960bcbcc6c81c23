-- `count_releases` meets its promise: the entries so far are counted. Assumes nothing.
use Rattle.basis.specs.Prelude.{◌∙◌, ap, arith, refl, take_all}
use Rattle.scenario.proofs.Inside.Lengths.{released_of, released_one, released_count}
use Rattle.scenario.proofs.writer.count_releases.Goals as goal

pub loop-value-init : goal.loop-value-init
loop-value-init c = (omega arith, refl)

pub loop-value-preserved : goal.loop-value-preserved
loop-value-preserved c = released_one _ _ _ _ c.loop-value-test.true c.loop-value.invariant c.from-count.ensures

pub returns : goal.returns
returns c = c.loop-value.invariant.1 ∙ ap released_of (take_all _ _ c.loop-value-test.false) ∙ released_count _
