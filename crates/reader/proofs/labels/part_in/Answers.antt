-- `part_in` meets its promise. Assumes nothing.
use Rattle.basis.specs.Prelude.{refl}
use Rattle.reader.proofs.Names.{part_in}
use Rattle.reader.proofs.labels.part_in.Goals as goal

pub returns : goal.returns
unfolding part_in
returns c = refl
