-- `play` meets its contract: the line is in its list. Assumes nothing.
use Rattle.watch.proofs.Inside.Slots.{played_in_room, played_part}
use Rattle.play.proofs.player.Player.play.Goals as goal

pub slice_bounds-text-end : goal.slice_bounds-text-end
slice_bounds-text-end g c = search played_in_room

pub slice_bounds-write_all-end : goal.slice_bounds-write_all-end
slice_bounds-write_all-end g c = search played_part
