-- `row_in` meets its promise. Assumes nothing.
use Rattle.sheet.proofs.Inside.ListRows.{row_read}
use Rattle.sheet.proofs.reading.row_in.Goals as goal

pub returns : goal.returns
returns c = search row_read
