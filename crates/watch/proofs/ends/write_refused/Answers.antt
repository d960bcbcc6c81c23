-- `write_refused` meets its promise. Assumes nothing.
use Rattle.watch.proofs.Inside.Lines.{refused_written}
use Rattle.watch.proofs.ends.write_refused.Goals as goal

pub returns : goal.returns
returns c = search refused_written
