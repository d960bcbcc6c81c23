-- `put_fixed` meets its promise: the sheet in a list is judged. Assumes nothing.
use Rattle.dashboard.proofs.Inside.Reports.{fixed_few, fixed_results, fixed_said}
use Rattle.dashboard.proofs.report.put_fixed.Goals as goal

pub invariant_of-board : goal.invariant_of-board
invariant_of-board c = record { few = search fixed_few; labelled = search fixed_few; judged = search fixed_results }

pub returns : goal.returns
returns c = search fixed_said
