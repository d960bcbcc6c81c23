-- `bound_of` is the smallest length that passes: the smallest from this length on is the smallest of all. Assumes nothing.
use Rattle.basis.specs.Prelude.{rules, le_of_lt}
use Rattle.bound.proofs.Inside.Lengths.{search_starts, length_of_row, search_less, told_next, search_found, search_more, search_ends}
use Rattle.bound.proofs.search.bound_of.Goals as goal

pub loop-row-init : goal.loop-row-init
loop-row-init c = (search rules, search search_starts)

pub try_length-requires : goal.try_length-requires
try_length-requires c = search length_of_row

pub returns-in_default : goal.returns-in_default
returns-in_default c = search search_found

pub further-at-requires : goal.further-at-requires
further-at-requires c = (search length_of_row, search told_next)

pub loop-row-smaller : goal.loop-row-smaller
loop-row-smaller c = search (search_less, le_of_lt)

pub loop-row-preserved : goal.loop-row-preserved
loop-row-preserved c = (search rules, search search_more)

pub returns : goal.returns
returns c = search search_ends
