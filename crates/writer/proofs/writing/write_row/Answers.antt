-- `write_row` meets its promise. Assumes nothing.
use Rattle.basis.specs.Prelude.{rules}
use Rattle.writer.proofs.Inside.Stored.{row_next, row_stored}
use Rattle.writer.proofs.writing.write_row.Goals as goal

pub returns : goal.returns
returns c = (search row_next, search rules, search row_stored)
