-- `sheet_of` meets its promise: the rows are copied over zeros. Assumes nothing.
use Rattle.tables.proofs.Inside.SheetNumbers.{rows_copied}
use Rattle.tables.proofs.fixed.sheet_of.Goals as goal

pub returns : goal.returns
returns c = search rows_copied
