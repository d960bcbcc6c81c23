-- `room_of` is q × X. Assumes nothing.
use Rattle.basis.specs.Prelude.{rules}
use Rattle.bound.proofs.Durations.{amount_fits}
use Rattle.bound.proofs.Amounts.{window_small, q_of_small, room_is}
use Rattle.bound.proofs.test.room_of.Goals as goal

pub on-requires : goal.on-requires
on-requires c = search (amount_fits, window_small, q_of_small, rules)

pub returns : goal.returns
returns c = search room_is
