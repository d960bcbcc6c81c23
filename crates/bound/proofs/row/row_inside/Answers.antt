-- `row_inside` is the row of the sheet. Assumes nothing.
use Rattle.sheet.proofs.Inside.ListRows.{numbers_handed}
use Rattle.bound.proofs.row.row_inside.Goals as goal

pub returns : goal.returns
returns c = search numbers_handed
