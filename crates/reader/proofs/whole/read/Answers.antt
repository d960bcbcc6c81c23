-- `read` meets its promise: the sheet of its own list, and none beside a refusal. Assumes nothing.
use Rattle.reader.proofs.Names.{passed_on}
use Rattle.reader.proofs.Inside.ZeroLists.{sheet_was_read, none_was_read}
use Rattle.reader.proofs.whole.read.Goals as goal

pub returns-in_err-read_into : goal.returns-in_err-read_into
returns-in_err-read_into c = rw (passed_on _ _ c.from_residual.ensures.1) (none_was_read _ _ _ _ _ c.in_err-read_into.ensures)

pub returns : goal.returns
returns c = sheet_was_read _ _ _ _ c.in_ok-read_into.ensures _ c.sheet_in.ensures
