-- `label` meets its promise: it shows the part. Assumes nothing.
use Rattle.basis.specs.Prelude.{rules}
use Rattle.reader.proofs.RowLabels.{part_fits, part_ends, part_shown}
use Rattle.reader.proofs.labels.label.Goals as goal

pub overflow_add-result : goal.overflow_add-result
overflow_add-result c = search (rules, part_ends)

pub slice_bounds-result-end : goal.slice_bounds-result-end
slice_bounds-result-end c = search part_fits

pub returns : goal.returns
returns c = search part_shown
