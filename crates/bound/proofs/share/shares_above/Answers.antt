-- `shares_above` has what the rows above reach by their shares: the loop has that of the first i rows. Assumes nothing.
use Rattle.basis.specs.Prelude.{rules}
use Rattle.bound.proofs.Amounts.{row_above, window_small, q_of_small}
use Rattle.bound.proofs.Shares.{shares_none, shares_fit, shares_more, shares_done}
use Rattle.bound.proofs.share.shares_above.Goals as goal

pub loop-i-init : goal.loop-i-init
loop-i-init c = search shares_none

pub share_above-share-requires : goal.share_above-share-requires
share_above-share-requires c = (search row_above, search window_small, search q_of_small)

pub plus-sum-requires : goal.plus-sum-requires
plus-sum-requires c = search (shares_fit, rules)

pub loop-i-preserved : goal.loop-i-preserved
loop-i-preserved c = search shares_more

pub returns : goal.returns
returns c = search shares_done
