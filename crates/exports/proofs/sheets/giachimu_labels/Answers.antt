-- `giachimu_labels` meets its promise: what the reader has written, and zeros past it. Assumes nothing.
use Rattle.basis.specs.Prelude.{refl}
use Rattle.exports.proofs.Inside.Fields.{labels_fit, labels_refused, labels_are_read}
use Rattle.exports.proofs.sheets.giachimu_labels.Goals as goal

pub overflow_mul-n : goal.overflow_mul-n
overflow_mul-n c = labels_fit _ _ _ _ _ c.in-Ok.ensures refl _ c.count-n.ensures

pub returns-in-Ok : goal.returns-in-Ok
returns-in-Ok c = labels_are_read _ _ _ _ _ c.in-Ok.ensures refl _ c.count-n.ensures _ c.clear_from.ensures _ c.tell.ensures

pub returns-in-Err : goal.returns-in-Err
returns-in-Err c = labels_refused _ _ _ _ _ c.in-Err.ensures _ _ refl _ c.tell-in-Err.ensures
