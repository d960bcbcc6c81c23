-- `window_of` is X. Assumes nothing.
use Rattle.basis.specs.Prelude.{rules}
use Rattle.bound.proofs.Amounts.{window_low, window_fits, window_is}
use Rattle.bound.proofs.test.window_of.Goals as goal

pub after-before-requires : goal.after-before-requires
after-before-requires c = search (window_low, rules)

pub plus-requires : goal.plus-requires
plus-requires c = search (window_fits, rules)

pub returns : goal.returns
returns c = search window_is
