-- `entry_length` meets its promise. Assumes nothing.
use Rattle.basis.specs.Prelude.{arith}
use Rattle.scenario.proofs.Inside.Lengths.{entry_none, entry_some}
use Rattle.scenario.proofs.writer.entry_length.Goals as goal

pub returns-then-value-eq0 : goal.returns-then-value-eq0
returns-then-value-eq0 c = (entry_none _ _ c.if-value-eq0.true, omega arith)

pub returns : goal.returns
returns c = (entry_some _ _ _ _ c.if-value-eq0.false c.number_length.ensures.0 c.number_length-2.ensures.0, omega arith)
