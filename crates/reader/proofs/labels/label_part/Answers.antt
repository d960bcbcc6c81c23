-- `label_part` meets its promise: the part in its own list, and none past the rows. Assumes nothing.
use Rattle.reader.proofs.Inside.ZeroLists.{part_was_read, no_part}
use Rattle.reader.proofs.labels.label_part.Goals as goal

pub returns-then-row-lt-MOST_ROWS : goal.returns-then-row-lt-MOST_ROWS
returns-then-row-lt-MOST_ROWS c = search part_was_read

pub returns : goal.returns
returns c = search no_part
