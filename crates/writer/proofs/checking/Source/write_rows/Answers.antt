-- `write_rows` meets its promise: the rows so far are stored. Assumes nothing.
use Rattle.basis.specs.Prelude.{rules}
use Rattle.writer.proofs.Inside.Stored.{rows_none, rows_not_stored, rows_next, rows_stored, rows_all, rows_stored_all}
use Rattle.writer.proofs.checking.Source.write_rows.Goals as goal

pub loop-i-init : goal.loop-i-init
loop-i-init c = (search rules, search rows_none, search rows_not_stored)

pub loop-i-preserved : goal.loop-i-preserved
loop-i-preserved c = (search rules, search rows_next, search rows_stored)

pub returns : goal.returns
returns c = (search rows_all, search rows_stored_all)
