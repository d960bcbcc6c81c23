-- `giachimu_bounds` meets its promise: what `bounds_on` has judged is told. Assumes nothing.
use Rattle.basis.specs.Prelude.{refl, ◌∙◌}
use Rattle.exports.proofs.Inside.Bounds.{byte_flag, bounds_refused, bounds_are_told}
use Rattle.exports.proofs.verdicts.giachimu_bounds.Goals as goal

pub returns-in-Ok : goal.returns-in-Ok
returns-in-Ok c = bounds_are_told _ _ _ _ _ c.in-Ok.ensures _ _ refl _ (c.from.ensures ∙ byte_flag _) c.tell.ensures

pub returns-in-Err : goal.returns-in-Err
returns-in-Err c = bounds_refused _ _ _ _ _ c.in-Err.ensures _ _ _ _ refl c.tell-in-Err.ensures
