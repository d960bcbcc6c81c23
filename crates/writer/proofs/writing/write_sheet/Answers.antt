-- `write_sheet` meets its promise. Assumes nothing.
use Rattle.writer.proofs.Names.{passed_on}
use Rattle.writer.proofs.Inside.Stored.{sheet_refused}
use Rattle.writer.proofs.writing.write_sheet.Goals as goal

pub returns-in_err-checked : goal.returns-in_err-checked
returns-in_err-checked c = rw (passed_on _ _ c.from_residual.ensures.1) (sheet_refused _ _ _ _ _ _ c.in_err-checked.ensures.told)
