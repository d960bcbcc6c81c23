-- `rounds` is how many times a period goes into a duration: 32 bits hold both. Assumes nothing.
use Rattle.bound.proofs.Durations.{rounds_fit}
use Rattle.bound.proofs.quantity.Duration.rounds.Goals as goal

pub overflow_cast-result-3 : goal.overflow_cast-result-3
overflow_cast-result-3 c = search rounds_fit
