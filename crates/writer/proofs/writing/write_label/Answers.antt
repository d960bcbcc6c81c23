-- `write_label` meets its promise. Assumes nothing.
use Rattle.basis.specs.Prelude.{rules}
use Rattle.writer.proofs.Inside.Stored.{label_next, label_stored}
use Rattle.writer.proofs.writing.write_label.Goals as goal

-- The place after a label is past its length and its bytes,
-- and what is stored is the one and then the others.
pub returns : goal.returns
returns c = (search label_next, search rules, search label_stored)
