-- `main` meets its contract: the part that it prints is in the buffer. Assumes nothing.
use Rattle.dashboard.proofs.Buffers.{written_in_room, written_part}
use Rattle.verdict.proofs.main.Goals as goal

pub slice_bounds-text-end : goal.slice_bounds-text-end
slice_bounds-text-end c = search written_in_room

pub slice_bounds-write_all-end : goal.slice_bounds-write_all-end
slice_bounds-write_all-end c = search written_part
