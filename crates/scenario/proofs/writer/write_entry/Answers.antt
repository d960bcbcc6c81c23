-- `write_entry` meets its promise. Assumes nothing.
use Rattle.basis.specs.Prelude.{arith}
use Rattle.scenario.proofs.Inside.Lengths.{entry_none, entry_some}
use Rattle.scenario.proofs.Inside.Stores.{entry_not_stored, entry_stored}
use Rattle.scenario.proofs.writer.write_entry.Goals as goal

pub returns-then-value-eq0 : goal.returns-then-value-eq0
returns-then-value-eq0 c = (omega (arith, entry_none c.args.row _ c.if-value-eq0.true), entry_not_stored _ _ _ _ c.if-value-eq0.true)

pub returns : goal.returns
returns c = (
  omega (arith, entry_some _ _ _ _ c.if-value-eq0.false c.write_number.ensures.0 c.write_number-2.ensures.0),
  entry_stored _ _ _ _ _ _ _ c.if-value-eq0.false c.write_number.ensures.0 c.write_number.ensures.2 c.write_number-2.ensures.2,
)
