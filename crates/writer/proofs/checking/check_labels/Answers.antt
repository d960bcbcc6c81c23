-- `check_labels` meets its promise: none of the rows so far is refused. Assumes nothing.
use Rattle.basis.specs.Prelude.{refl}
use Rattle.writer.proofs.Names.{first_of}
use Rattle.writer.proofs.Inside.Checks.{labels_more, labels_refused, labels_fine}
use Rattle.writer.proofs.checking.check_labels.Goals as goal

pub loop-row-init : goal.loop-row-init
unfolding first_of
loop-row-init c = refl

pub loop-row-preserved : goal.loop-row-preserved
unfolding first_of
loop-row-preserved c = search labels_more

pub returns-then-not-label_lies : goal.returns-then-not-label_lies
unfolding first_of
returns-then-not-label_lies c = search labels_refused

pub returns : goal.returns
unfolding first_of
returns c = search labels_fine
