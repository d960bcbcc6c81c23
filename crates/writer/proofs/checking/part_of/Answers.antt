-- `part_of` meets its promise. Assumes nothing.
use Rattle.writer.proofs.Inside.Checks.{part_read}
use Rattle.writer.proofs.checking.part_of.Goals as goal

pub returns : goal.returns
returns c = search part_read
