-- `put_code` meets its promise. Assumes nothing.
use Rattle.watch.proofs.Names.{two_said}
use Rattle.watch.proofs.codes.put_code.Goals as goal

pub returns : goal.returns
returns c = search two_said
