-- `left` is what is left of a duration after whole periods: 32 bits hold both. Assumes nothing.
use Rattle.bound.proofs.Durations.{rest_fits}
use Rattle.bound.proofs.quantity.Duration.left.Goals as goal

pub overflow_cast-result-3 : goal.overflow_cast-result-3
overflow_cast-result-3 c = search rest_fits
