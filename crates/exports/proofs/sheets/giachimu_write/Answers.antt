-- `giachimu_write` meets its promise. Assumes nothing.
use Rattle.exports.proofs.Names.{sheet_written}
use Rattle.exports.proofs.Inside.LentAnswers.{found_is_told}
use Rattle.exports.proofs.sheets.giachimu_write.Goals as goal

pub returns : goal.returns
unfolding sheet_written
returns c = found_is_told _ _ _ c.write_sheet.ensures _ _ _ c.put_found.ensures _ c.tell.ensures
