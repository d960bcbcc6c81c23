-- `write_all` meets its promise: with the slots still to come, the whole is stored. Assumes nothing.
use Rattle.basis.specs.Prelude.{◌∙◌, sym, ap, arith, length, sets}
use Rattle.std.specs.Slice.Iter.{chunks_exact_rest}
use Rattle.scenario.proofs.Names.{sheet_in}
use Rattle.scenario.proofs.Inside.Files.{file_long, file_stored, no_slot, first_long, first_stored}
use Rattle.scenario.proofs.writer.write_all.Goals as goal

pub loop-slot-init : goal.loop-slot-init
loop-slot-init c = rw (c.into_iter-slot-iterator.ensures.into_iter_gives, c.chunks_exact-slot-items.ensures.rest, c.chunks_exact-slot-items.ensures.size, c.put_bytes.ensures)
    (c.args.rows.now.counted, sym (file_long (sheet_in c.args.rows.now.sheet.now) _), file_stored (sheet_in c.args.rows.now.sheet.now) _ _)

pub write_slot-next-requires : goal.write_slot-next-requires
write_slot-next-requires c =
    let steps = c.in-Some.ensures.steps in
    let long = first_long (sheet_in c.args.rows.now.sheet.now) _ _ _ steps.1.0 (steps.1.1 ∙ c.loop-slot.invariant.0) (omega arith) in
    omega arith

pub loop-slot-preserved : goal.loop-slot-preserved
loop-slot-preserved c =
    let steps = c.in-Some.ensures.steps in
    let long = first_long (sheet_in c.args.rows.now.sheet.now) _ _ _ steps.1.0 (steps.1.1 ∙ c.loop-slot.invariant.0) (omega arith) in (
      steps.0 ∙ c.loop-slot.invariant.0,
      omega arith,
      first_stored (sheet_in c.args.rows.now.sheet.now) _ _ _ steps.1.0 (steps.1.1 ∙ c.loop-slot.invariant.0) (omega arith) _ _ _ _ c.write_slot-next.ensures.1 c.write_slot-next.ensures.0 ∙ c.loop-slot.invariant.2,
    )

pub returns : goal.returns
returns c =
    let none = no_slot (sheet_in c.args.rows.now.sheet.now) (chunks_exact_rest c.loop-slot.slot-iterator) (omega (arith, c.in-None.ensures.steps.1.0, c.loop-slot.invariant.0)) in
    (omega (arith, ap length none), ap (sets c.loop-slot.bytes c.loop-slot.next) (sym none) ∙ c.loop-slot.invariant.2)
