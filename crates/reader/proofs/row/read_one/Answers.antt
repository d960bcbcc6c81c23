-- `read_one` meets its promise: it says how the range refuses. Assumes nothing.
use Rattle.basis.specs.Prelude.{◌∙◌}
use Rattle.reader.proofs.Names.{ranged_is}
use Rattle.reader.proofs.row.read_one.Goals as goal

pub returns : goal.returns
returns c = c.read_in_range.ensures ∙ ranged_is _ 7 8 _ _
