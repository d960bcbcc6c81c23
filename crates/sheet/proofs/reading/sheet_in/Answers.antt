-- `sheet_in` meets its promise: the rows so far are those of the list. Assumes nothing.
use Rattle.basis.specs.Prelude.{rules}
use Rattle.sheet.proofs.Names.{upto_none}
use Rattle.sheet.proofs.Inside.ListRows.{rows_more, sheet_read}
use Rattle.sheet.proofs.reading.sheet_in.Goals as goal

pub loop-i-init : goal.loop-i-init
loop-i-init c = search upto_none

pub loop-i-preserved : goal.loop-i-preserved
loop-i-preserved c = search rows_more

pub returns : goal.returns
returns c = search (sheet_read, rules)
