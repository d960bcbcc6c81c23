-- `take_rows` meets its promise. The invariant: the rows passed are accepted, and stand in the lists with their labels. Assumes nothing.
use Rattle.basis.specs.Prelude.{rules, refl, arith, length-set}
use Rattle.reader.proofs.Names.{passed_on, upto, map_step, entries_by, parts_in}
use Rattle.reader.proofs.Inside.RowLoop.{head_put, row_refused, one_passed, row_put, part_put, all_passed, rows_put, parts_put, list_long, parts_long, row_room, part_room}
use Rattle.reader.proofs.rows.take_rows.Goals as goal

pub bounds-list-1 : goal.bounds-list-1
unfolding entries_by map_step parts_in upto
bounds-list-1 c = simp length-set (omega arith)

pub loop-i-init : goal.loop-i-init
unfolding entries_by map_step parts_in upto
loop-i-init c = (refl, search head_put, refl)

pub returns-in_err-entry : goal.returns-in_err-entry
returns-in_err-entry c = rw (passed_on _ _ c.from_residual.ensures.1) (row_refused _ _ _ _ _ _ c.loop-i.invariant.0 c.loop-i-test.true _ _ c.in_err-entry.ensures.0, tt)

pub put_row-requires : goal.put_row-requires
unfolding entries_by map_step parts_in upto
put_row-requires c = (search rules, search row_room)

pub put_part-requires : goal.put_part-requires
unfolding entries_by map_step parts_in upto
put_part-requires c = (search rules, search part_room)

pub loop-i-preserved : goal.loop-i-preserved
unfolding entries_by map_step parts_in upto
loop-i-preserved c =
    let q = c.in_ok-entry.ensures.0 in
    let so_far = c.loop-i.invariant.0 in (
      one_passed _ c.args.count _ _ _ _ so_far _ _ q,
      row_put _ c.args.count _ _ _ _ so_far _ _ q _ _ c.loop-i.invariant.1 _ c.put_row.ensures,
      part_put _ c.args.count _ _ _ _ so_far _ _ q _ c.in_ok-entry.ensures.1 _ _ c.loop-i.invariant.2 _ c.put_part.ensures,
    )

pub shape_of-list : goal.shape_of-list
unfolding entries_by map_step parts_in upto
shape_of-list c = search list_long

pub shape_of-labels : goal.shape_of-labels
unfolding entries_by map_step parts_in upto
shape_of-labels c = search parts_long

pub returns : goal.returns
unfolding entries_by map_step parts_in upto
returns c = (search all_passed, (search rows_put, search parts_put))
