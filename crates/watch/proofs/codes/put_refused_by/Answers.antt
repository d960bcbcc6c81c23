-- `put_refused_by` meets its promise. Assumes nothing.
use Rattle.watch.proofs.Names.{refused_by, four_said}
use Rattle.watch.proofs.codes.put_refused_by.Goals as goal

pub returns : goal.returns
unfolding refused_by
returns c = search four_said
