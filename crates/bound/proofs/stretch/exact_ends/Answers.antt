-- `exact_ends` has ends whose line the row's amount is never below. Assumes nothing.
use Rattle.basis.specs.Prelude.{rules}
use Rattle.bound.proofs.Durations.{amount_most}
use Rattle.bound.proofs.RowLines.{exact_meets}
use Rattle.bound.proofs.stretch.exact_ends.Goals as goal

pub fine-requires : goal.fine-requires
fine-requires c = search (amount_most, rules)

pub fine-requires-2 : goal.fine-requires-2
fine-requires-2 c = search (amount_most, rules)

pub returns : goal.returns
returns c = search (exact_meets, amount_most)
