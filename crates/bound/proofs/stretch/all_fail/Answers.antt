-- `all_fail` says that all lengths of a stretch fail only where they do: its two ends decide. Assumes nothing.
use Rattle.basis.specs.Prelude.{rules}
use Rattle.bound.proofs.Amounts.{fine_room_fits}
use Rattle.bound.proofs.Stretches.{then_rounds, stretch_told}
use Rattle.bound.proofs.stretch.all_fail.Goals as goal

pub reaches-requires : goal.reaches-requires
reaches-requires c = (search rules, search fine_room_fits)

pub reaches-requires-then-reaches : goal.reaches-requires-then-reaches
reaches-requires-then-reaches c = (search then_rounds, search fine_room_fits)

pub returns-then-reaches : goal.returns-then-reaches
returns-then-reaches c = search stretch_told
