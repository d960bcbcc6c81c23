-- `write_releases` meets its promise: the entries so far are stored. Assumes nothing.
use Rattle.basis.specs.Prelude.{arith, refl}
use Rattle.scenario.proofs.Names.{releases_bytes}
use Rattle.scenario.proofs.Inside.Stores.{next_room, next_more, stored_more}
use Rattle.scenario.proofs.writer.write_releases.Goals as goal

pub loop-row-init : goal.loop-row-init
unfolding releases_bytes
loop-row-init c = (omega arith, refl)

pub write_entry-next-requires : goal.write_entry-next-requires
write_entry-next-requires c = next_room _ _ _ _ c.loop-row.invariant.0 _ _ c.loop-row-test.true c.loop-row.auto.bytes c.requires

pub loop-row-preserved : goal.loop-row-preserved
loop-row-preserved c = (
  next_more _ _ _ _ c.loop-row.invariant.0 c.loop-row-test.true _ c.write_entry-next.ensures.0,
  stored_more _ _ _ _ c.loop-row.invariant.0 _ _ c.loop-row.invariant.1 c.loop-row-test.true _ c.write_entry-next.ensures.1,
)
