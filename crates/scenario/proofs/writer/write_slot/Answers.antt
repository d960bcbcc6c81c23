-- `write_slot` meets its promise. Assumes nothing.
use Rattle.scenario.proofs.Inside.Stores.{releases_room, slot_next, slot_stored}
use Rattle.scenario.proofs.writer.write_slot.Goals as goal

pub write_releases-requires : goal.write_releases-requires
write_releases-requires c = releases_room _ _ _ _ c.count_releases.ensures c.write_number-long.ensures.0 _ _ c.requires c.write_number-long.ensures.2

pub returns : goal.returns
returns c = (
  slot_next _ _ _ _ c.count_releases.ensures c.write_number-long.ensures.0 _ c.write_releases.ensures.0,
  slot_stored _ _ _ _ c.count_releases.ensures c.write_number-long.ensures.0 _ _ _ c.write_number-long.ensures.2 c.write_releases.ensures.1,
)
