-- `giachimu_label` meets its promise: the part that the reader has written for the row. Assumes nothing.
use Rattle.basis.specs.Prelude.{refl, arith}
use Rattle.exports.proofs.Inside.Fields.{label_refused, label_past, start_fits, start_scaled, start_inside, long_fits, long_scaled, long_inside, label_there}
use Rattle.exports.proofs.sheets.giachimu_label.Goals as goal

pub returns-then-n-row : goal.returns-then-n-row
returns-then-n-row c = label_past _ _ _ _ c.in-Ok.ensures refl _ c.count-n.ensures _ _ _ c.if-n-row.true c.tell.ensures

pub overflow_mul-start : goal.overflow_mul-start
overflow_mul-start c = start_fits _ _ _ _ c.in-Ok.ensures refl _ c.count-n.ensures _ c.if-n-row.false

pub offset_bounds-labels-row : goal.offset_bounds-labels-row
offset_bounds-labels-row c = start_scaled _ _ _ _ c.in-Ok.ensures refl _ c.count-n.ensures _ c.if-n-row.false

pub bounds-labels-row : goal.bounds-labels-row
bounds-labels-row c = start_inside _ _ _ _ c.in-Ok.ensures refl _ c.count-n.ensures _ c.if-n-row.false

pub overflow_mul-long : goal.overflow_mul-long
overflow_mul-long c = start_fits _ _ _ _ c.in-Ok.ensures refl _ c.count-n.ensures _ c.if-n-row.false

pub overflow_add-long : goal.overflow_add-long
overflow_add-long c = long_fits _ _ _ _ c.in-Ok.ensures refl _ c.count-n.ensures _ c.if-n-row.false _ (omega arith)

pub offset_bounds-labels-row-in-Ok : goal.offset_bounds-labels-row-in-Ok
offset_bounds-labels-row-in-Ok c = long_scaled _ _ _ _ c.in-Ok.ensures refl _ c.count-n.ensures _ c.if-n-row.false _ (omega arith)

pub bounds-labels-row-in-Ok : goal.bounds-labels-row-in-Ok
bounds-labels-row-in-Ok c = long_inside _ _ _ _ c.in-Ok.ensures refl _ c.count-n.ensures _ c.if-n-row.false _ (omega arith)

pub returns-else-n-row : goal.returns-else-n-row
returns-else-n-row c = label_there _ _ _ _ c.in-Ok.ensures refl _ c.count-n.ensures _ c.if-n-row.false _ _ c.tell-in-Ok.ensures

pub returns-in-Err : goal.returns-in-Err
returns-in-Err c = label_refused _ _ _ _ c.in-Err.ensures _ _ _ _ _ refl c.tell-in-Err.ensures
