-- `releases_length` meets its promise: the entries so far are measured. Assumes nothing.
use Rattle.basis.specs.Prelude.{arith, refl}
use Rattle.scenario.proofs.Names.{releases_bytes}
use Rattle.scenario.proofs.Inside.Lengths.{long_one}
use Rattle.scenario.proofs.writer.releases_length.Goals as goal

pub loop-row-init : goal.loop-row-init
unfolding releases_bytes
loop-row-init c = (omega arith, refl)

pub loop-row-preserved : goal.loop-row-preserved
loop-row-preserved c = (omega arith, long_one _ _ _ _ c.loop-row-test.true c.loop-row.invariant.1 c.entry_length-long.ensures.0)
