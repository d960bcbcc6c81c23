-- `print_end` meets its contract: the line is in its buffer. Assumes nothing.
use Rattle.page.proofs.Inside.Written.{written_in_room, written_part}
use Rattle.play.proofs.lines.print_end.Goals as goal

pub slice_bounds-text-end : goal.slice_bounds-text-end
slice_bounds-text-end g c = search written_in_room

pub slice_bounds-write_all-end : goal.slice_bounds-write_all-end
slice_bounds-write_all-end g c = search written_part
