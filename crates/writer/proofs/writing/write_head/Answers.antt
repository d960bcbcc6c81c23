-- `write_head` meets its promise. Assumes nothing.
use Rattle.basis.specs.Prelude.{rules}
use Rattle.writer.proofs.Inside.Stored.{head_next, head_stored}
use Rattle.writer.proofs.writing.write_head.Goals as goal

pub returns : goal.returns
returns c = (search head_next, search rules, search head_stored)
