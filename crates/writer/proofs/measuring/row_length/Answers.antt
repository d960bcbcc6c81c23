-- `row_length` meets its promise. Assumes nothing.
use Rattle.basis.specs.Prelude.{rules}
use Rattle.writer.proofs.Inside.Lengths.{row_measured}
use Rattle.writer.proofs.measuring.row_length.Goals as goal

pub returns : goal.returns
returns c = (search row_measured, search rules)
