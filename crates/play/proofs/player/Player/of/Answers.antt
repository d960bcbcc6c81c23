-- `of` meets its promise: a sheet that was read has few rows. Assumes nothing.
use Rattle.play.proofs.Inside.Sheets.{few_read}
use Rattle.play.proofs.player.Player.of.Goals as goal

pub invariant_of-result : goal.invariant_of-result
invariant_of-result c = record { few = few_read _ _ _ _ _ _ c.read_into.ensures _ c.in_ok-read_into.was _ c.count-rows.ensures }
