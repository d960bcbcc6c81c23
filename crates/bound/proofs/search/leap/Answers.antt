-- `leap` steps over lengths that fail, whatever is guessed. Assumes nothing.
use Rattle.basis.specs.Prelude.{rules}
use Rattle.bound.proofs.Stretches.{deadline_small, end_is_length, after_end_fits, twice_fits, over_skips}
use Rattle.bound.proofs.search.leap.Goals as goal

pub reach_of-reach-requires : goal.reach_of-reach-requires
reach_of-reach-requires c = (search rules, search rules, search deadline_small)

pub all_fail-requires : goal.all_fail-requires
all_fail-requires c = (search rules, search end_is_length, search rules)

pub plus-requires : goal.plus-requires
plus-requires c = search (after_end_fits, rules)

pub times-requires : goal.times-requires
times-requires c = search twice_fits

pub returns-then-all_fail : goal.returns-then-all_fail
returns-then-all_fail c = search (over_skips, ← c.of-then-all_fail.ensures)
