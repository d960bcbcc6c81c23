-- `fill` meets its promise. The invariant: the slots so far stand there, and zeros for those still to be read. Assumes nothing.
use Rattle.basis.specs.Prelude.{arith}
use Rattle.scenario.proofs.Inside.Filling.{none_filled, all_filled, slot_room, lent_room, fill_never, fill_less, fill_more}
use Rattle.scenario.proofs.reader.fill.Goals as goal

pub loop-next-init : goal.loop-next-init
loop-next-init c = (none_filled _ _ _ c.requires, omega arith)

pub slot_at-requires : goal.slot_at-requires
slot_at-requires c = omega (arith, c.args.rows.now.counted, lent_room _ _ _ _ _ _ c.loop-next.invariant.0 c.loop-next-test.true)

pub unwrap-next-requires : goal.unwrap-next-requires
unwrap-next-requires c = fill_never _ _ _ _ _ _ c.loop-next.invariant.0 c.loop-next-test.true _ _ c.slot_at.ensures

pub loop-next-smaller : goal.loop-next-smaller
loop-next-smaller c = fill_less _ _ _ _ _ _ c.loop-next.invariant.0 c.loop-next-test.true _ _ c.slot_at.ensures _ c.unwrap-next.ensures

pub loop-next-preserved : goal.loop-next-preserved
loop-next-preserved c = (
  fill_more _ _ _ _ _ _ c.loop-next.invariant.0 c.loop-next-test.true _ _ c.slot_at.ensures _ c.unwrap-next.ensures _ c.args.rows.now.counted,
  slot_room _ _ _ _ _ _ c.loop-next.invariant.0 c.loop-next-test.true _ c.args.rows.now.counted c.loop-next.auto.releases,
)

pub returns : goal.returns
returns c = all_filled _ _ _ _ _ _ c.loop-next.invariant.0 c.loop-next-test.false
