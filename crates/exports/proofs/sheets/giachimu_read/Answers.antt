-- `giachimu_read` meets its promise: what the reader has written, and zeros past it. Assumes nothing.
use Rattle.basis.specs.Prelude.{refl, arith}
use Rattle.exports.proofs.Inside.Fields.{rows_fit, places_fit, fields_refused, fields_are_read}
use Rattle.exports.proofs.sheets.giachimu_read.Goals as goal

pub overflow_mul-n : goal.overflow_mul-n
overflow_mul-n c = rows_fit _ _ _ _ _ c.in-Ok.ensures refl _ c.count-n.ensures

pub overflow_add-n : goal.overflow_add-n
overflow_add-n c = places_fit _ _ _ _ _ c.in-Ok.ensures refl _ c.count-n.ensures _ (omega arith)

pub returns-in-Ok : goal.returns-in-Ok
returns-in-Ok c = fields_are_read _ _ _ _ _ c.in-Ok.ensures refl _ c.count-n.ensures _ c.clear_from.ensures _ c.tell.ensures

pub returns-in-Err : goal.returns-in-Err
returns-in-Err c = fields_refused _ _ _ _ _ c.in-Err.ensures _ _ refl _ c.tell-in-Err.ensures
