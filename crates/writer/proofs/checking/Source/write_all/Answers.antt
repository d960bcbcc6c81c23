-- `write_all` meets its promise. Assumes nothing.
use Rattle.writer.proofs.Inside.Stored.{sheet_next, sheet_stored}
use Rattle.writer.proofs.checking.Source.write_all.Goals as goal

pub returns : goal.returns
returns c = (search sheet_next, search sheet_stored)
