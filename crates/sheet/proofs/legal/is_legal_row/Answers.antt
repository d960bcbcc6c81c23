-- `is_legal_row` says whether a row is within its ranges. Assumes nothing.
use Rattle.std.proofs.Common.{arith}
use Rattle.std.proofs.lemmas.Grind.{common_steps}
use Rattle.sheet.proofs.Names.{legal_row}
use Rattle.sheet.proofs.legal.is_legal_row.Goals as goal

pub returns-then-contains-3 : goal.returns-then-contains-3
unfolding legal_row
returns-then-contains-3 c = grind (arith, common_steps)

pub returns-else-contains-3 : goal.returns-else-contains-3
unfolding legal_row
returns-else-contains-3 c = grind (arith, common_steps)
