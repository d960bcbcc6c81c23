-- `budget` meets its promise: it is the last number of its row. Assumes nothing.
use Rattle.basis.specs.Prelude.{arith}
use Rattle.sheet.proofs.Inside.ListRows.{numbers_handed}
use Rattle.scenario.proofs.rows.Rows.budget.Goals as goal

pub returns : goal.returns
returns c = λ i. (numbers_handed c.args.self.now.sheet.now c.args.row (omega (arith, c.args.self.now.few, c.requires)) i).budget
