-- `work_of` is W: whole periods fit into x, and jobs into periods. Assumes nothing.
use Rattle.basis.specs.Prelude.{rules}
use Rattle.bound.proofs.Durations.{jobs_fit, work_fits, work_is}
use Rattle.bound.proofs.test.work_of.Goals as goal

pub times-jobs-requires : goal.times-jobs-requires
times-jobs-requires c = search jobs_fit

pub plus-requires : goal.plus-requires
plus-requires c = search (work_fits, rules)

pub returns : goal.returns
returns c = search work_is
