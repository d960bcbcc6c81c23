-- `giachimu_fixed` meets its promise: a worked sheet has few rows, and is written where there is room. Assumes nothing.
use Rattle.exports.proofs.Inside.NumberAnswers.{fixed_rows_fit, fixed_places_fit, fixed_has_no_room, fixed_is_written}
use Rattle.exports.proofs.worked.giachimu_fixed.Goals as goal

pub overflow_mul-n : goal.overflow_mul-n
overflow_mul-n c = search fixed_rows_fit

pub overflow_add-n : goal.overflow_add-n
overflow_add-n c = search fixed_places_fit

pub returns-then-list-n : goal.returns-then-list-n
returns-then-list-n c = search fixed_has_no_room

pub returns : goal.returns
returns c = search fixed_is_written
