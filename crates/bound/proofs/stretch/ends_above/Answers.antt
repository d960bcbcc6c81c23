-- `ends_above` has such ends, whichever it takes. Assumes nothing.
use Rattle.basis.specs.Prelude.{rules}
use Rattle.bound.proofs.Inside.Lengths.{told_true}
use Rattle.bound.proofs.stretch.ends_above.Goals as goal

pub exact_ends-requires : goal.exact_ends-requires
exact_ends-requires c = (search rules, search told_true)
