-- `giachimu_margin` meets its promise. Assumes nothing.
use Rattle.basis.specs.Prelude.{rules}
use Rattle.exports.proofs.Inside.Calls.{margin_refused, margin_none, margin_some}
use Rattle.exports.proofs.machines.giachimu_margin.Goals as goal

pub returns-in-Ok-None : goal.returns-in-Ok-None
returns-in-Ok-None c = margin_none _ _ _ _ _ _ _ (rw c.in-Ok-None.field-0-is at c.in-Ok-None.ensures) c.tell.ensures

pub returns-in-Ok-Some : goal.returns-in-Ok-Some
returns-in-Ok-Some c = margin_some _ _ _ _ _ _ _ _ (rw c.in-Ok-Some.field-0-is at c.in-Ok-Some.ensures) (search rules) c.tell-in-Ok-Some.ensures

pub returns-in-Err : goal.returns-in-Err
returns-in-Err c = margin_refused _ _ _ _ _ _ _ _ _ c.in-Err.ensures c.tell-in-Err.ensures
