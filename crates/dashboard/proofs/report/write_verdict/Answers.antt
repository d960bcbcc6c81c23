-- `write_verdict` meets its promise: there is room in small lists, or in those for every row. Assumes nothing.
use Rattle.dashboard.proofs.Inside.Reports.{room_for_few, room_for_any}
use Rattle.dashboard.proofs.report.write_verdict.Goals as goal

pub write_in-requires : goal.write_in-requires
write_in-requires c = search room_for_few

pub write_in-requires-else-bytes-lt-FEW_BYTES : goal.write_in-requires-else-bytes-lt-FEW_BYTES
write_in-requires-else-bytes-lt-FEW_BYTES c = search room_for_any
