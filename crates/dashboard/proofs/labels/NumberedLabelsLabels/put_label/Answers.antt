-- `put_label` meets its promise: the bytes, then the row number. Assumes nothing.
use Rattle.dashboard.proofs.Names.{numbered, two_said}
use Rattle.dashboard.proofs.labels.NumberedLabelsLabels.put_label.Goals as goal

pub returns : goal.returns
unfolding numbered
returns c = search two_said
