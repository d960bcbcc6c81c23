-- `fills` meets its promise, by multiplication. Assumes nothing.
use Rattle.basis.specs.Prelude.{div-mul-le_self}
use Rattle.bound.proofs.Durations.{fills_most}
use Rattle.bound.proofs.quantity.Amount.fills.Goals as goal

pub returns : goal.returns
returns c = (search div-mul-le_self, search fills_most)
