-- `giachimu_box` meets its promise: the checks before the run, and what the box's own loop answers. Assumes nothing.
use Rattle.exports.proofs.Inside.BoxAnswers.{records_fit, box_has_no_room, box_answered, box_not_legal}
use Rattle.exports.proofs.boxes.giachimu_box.Goals as goal

pub returns-then-not-is_legal : goal.returns-then-not-is_legal
returns-then-not-is_legal c = search box_not_legal

pub overflow_mul-count : goal.overflow_mul-count
overflow_mul-count c = search records_fit

pub returns-then-list-count : goal.returns-then-list-count
returns-then-list-count c = search box_has_no_room

pub returns : goal.returns
returns c = search box_answered
