-- `head_length` meets its promise. Assumes nothing.
use Rattle.basis.specs.Prelude.{rules}
use Rattle.writer.proofs.Inside.Lengths.{head_measured}
use Rattle.writer.proofs.measuring.head_length.Goals as goal

pub returns : goal.returns
returns c = (search head_measured, search rules)
