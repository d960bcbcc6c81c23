-- `write_end` meets its promise. Assumes nothing.
use Rattle.watch.proofs.Inside.Lines.{end_written}
use Rattle.watch.proofs.ends.write_end.Goals as goal

pub returns : goal.returns
returns c = search end_written
