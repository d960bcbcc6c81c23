-- `write_reference` meets its promise. The invariant: what is said so far is the sections passed. Assumes nothing.
use Rattle.basis.specs.Prelude.{refl}
use Rattle.dashboard.proofs.Names.{sections, said}
use Rattle.dashboard.proofs.Inside.Reports.{one_section, reference_written}
use Rattle.dashboard.proofs.report.write_reference.Goals as goal

pub loop-number-init : goal.loop-number-init
unfolding said sections
loop-number-init c = refl

pub loop-number-preserved : goal.loop-number-preserved
loop-number-preserved c = search one_section

pub returns : goal.returns
returns c = search reference_written
