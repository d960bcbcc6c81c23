-- `fits` meets its promise: what is left has the room that the slots still to come leave of the whole. Assumes nothing.
use Rattle.basis.specs.Prelude.{◌∙◌, sym, ap, arith, length, lt-leb, le-leb}
use Rattle.std.specs.Slice.Iter.{chunks_exact_rest}
use Rattle.scenario.proofs.Names.{sheet_in}
use Rattle.scenario.proofs.Inside.Files.{file_long, no_slot, first_long}
use Rattle.scenario.proofs.writer.fits.Goals as goal

pub returns-then-room-lt4 : goal.returns-then-room-lt4
returns-then-room-lt4 c = sym (lt-leb _ _ (omega (arith, file_long (sheet_in c.args.rows.now.sheet.now) c.args.releases.now)))

pub loop-slot-init : goal.loop-slot-init
loop-slot-init c = rw (c.into_iter-slot-iterator.ensures.into_iter_gives, c.chunks_exact-slot-items.ensures.rest, c.chunks_exact-slot-items.ensures.size)
    (c.args.rows.now.counted, omega (arith, file_long (sheet_in c.args.rows.now.sheet.now) c.args.releases.now))

pub returns-then-left-need : goal.returns-then-left-need
returns-then-left-need c =
    let steps = c.in-Some.ensures.steps in
    let long = first_long (sheet_in c.args.rows.now.sheet.now) _ _ _ steps.1.0 (steps.1.1 ∙ c.loop-slot.invariant.0) (omega arith) in
    sym (lt-leb _ _ (omega arith))

pub loop-slot-preserved : goal.loop-slot-preserved
loop-slot-preserved c =
    let steps = c.in-Some.ensures.steps in
    let long = first_long (sheet_in c.args.rows.now.sheet.now) _ _ _ steps.1.0 (steps.1.1 ∙ c.loop-slot.invariant.0) (omega arith) in
    (steps.0 ∙ c.loop-slot.invariant.0, omega arith)

pub returns : goal.returns
returns c =
    let none = no_slot (sheet_in c.args.rows.now.sheet.now) (chunks_exact_rest c.loop-slot.slot-iterator) (omega (arith, c.in-None.ensures.steps.1.0, c.loop-slot.invariant.0)) in
    sym (le-leb _ _ (omega (arith, ap length none)))
