-- `amount_above` is the amount of a row above. Assumes nothing.
use Rattle.basis.specs.Prelude.{rules}
use Rattle.bound.proofs.Durations.{amount_fits, spans, amount_is}
use Rattle.bound.proofs.test.amount_above.Goals as goal

pub work_of-W-requires : goal.work_of-W-requires
work_of-W-requires c = search spans

pub on-requires : goal.on-requires
on-requires c = search (amount_fits, rules)

pub returns : goal.returns
returns c = search amount_is
