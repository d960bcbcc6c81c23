-- `cut` meets its promise: it shows the part. Assumes nothing.
use Rattle.basis.specs.Prelude.{rules}
use Rattle.dashboard.proofs.Inside.Boards.{label_ends, label_inside, label_cut}
use Rattle.dashboard.proofs.labels.OwnLabels.cut.Goals as goal

pub overflow_add-end-2 : goal.overflow_add-end-2
overflow_add-end-2 c = label_ends _ _ _ _ c.args.self.now.lie c.requires (search rules)

pub slice_bounds-result-end : goal.slice_bounds-result-end
slice_bounds-result-end c = label_inside _ _ _ _ c.args.self.now.lie c.requires

pub returns : goal.returns
returns c = label_cut _ _ _ _ c.args.self.now.lie c.requires
