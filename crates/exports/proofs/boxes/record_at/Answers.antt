-- `record_at` meets its promise. Assumes nothing.
use Rattle.sheet.proofs.Inside.Cells.{unmapped}
use Rattle.exports.proofs.Inside.BoxAnswers.{record_past}
use Rattle.exports.proofs.boxes.record_at.Goals as goal

pub returns : goal.returns
returns c = search (record_past, unmapped)
