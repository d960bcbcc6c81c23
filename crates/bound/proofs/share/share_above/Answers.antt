-- `share_above` is the amount of a row above by its share. Assumes nothing.
use Rattle.basis.specs.Prelude.{rules}
use Rattle.bound.proofs.Durations.{span_small, part_fits, fine_fits}
use Rattle.bound.proofs.Shares.{share_amount_is}
use Rattle.bound.proofs.share.share_above.Goals as goal

pub part-part-requires : goal.part-part-requires
part-part-requires c = (part_fits _ _ (search span_small) (search rules), search rules)

pub on-requires : goal.on-requires
on-requires c = search (fine_fits, rules)

pub returns : goal.returns
returns c = search share_amount_is
