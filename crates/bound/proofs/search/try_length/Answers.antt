-- `try_length` tells whether a length passes, and if not which may be next. Assumes nothing.
use Rattle.basis.specs.Prelude.{rules}
use Rattle.bound.proofs.Durations.{less_is}
use Rattle.bound.proofs.Steps.{trial_passes, trial_fills, spare_fits}
use Rattle.bound.proofs.search.try_length.Goals as goal

pub returns-then-lt : goal.returns-then-lt
returns-then-lt c = search (trial_passes, less_is)

pub rows_to_plan_by-added-requires : goal.rows_to_plan_by-added-requires
rows_to_plan_by-added-requires c = (search rules, search rules, search (trial_fills, less_is))

pub spare-requires : goal.spare-requires
spare-requires c = search spare_fits
