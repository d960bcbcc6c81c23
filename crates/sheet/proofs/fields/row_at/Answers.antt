-- `row_at` meets its promise. Assumes nothing.
use Rattle.sheet.proofs.Inside.ListRows.{row_there, row_nowhere}
use Rattle.sheet.proofs.fields.row_at.Goals as goal

pub returns-then-k-ge-MOST_ROWS : goal.returns-then-k-ge-MOST_ROWS
returns-then-k-ge-MOST_ROWS c = search row_nowhere

pub returns-else-k-list : goal.returns-else-k-list
returns-else-k-list c = search row_there
