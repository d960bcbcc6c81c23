-- `judge_bytes` meets its promise: the bytes are read, and the front of the list is judged. Assumes nothing.
use Rattle.bound.proofs.Names.{passed_on}
use Rattle.bound.proofs.FromBytes.{less_room, not_read, rows_fit, end_fits, end_inside, front_long, front_count, front_legal, results_fit, read_and_judged}
use Rattle.bound.proofs.bytes.judge_bytes.Goals as goal

pub returns-then-results-labels : goal.returns-then-results-labels
returns-then-results-labels c = search less_room

pub returns-in_err-read_into : goal.returns-in_err-read_into
returns-in_err-read_into c = rw (passed_on _ _ c.from_residual.ensures.1) (not_read _ _ _ _ c.if-results-labels.false _ _ _ _ c.in_err-read_into.ensures)

pub overflow_mul-end : goal.overflow_mul-end
overflow_mul-end c = rows_fit _ _ _ c.args.results.now c.if-results-labels.false _ _ c.in_ok-read_into.ensures _ c.count-n.ensures

pub overflow_add-end : goal.overflow_add-end
overflow_add-end c = end_fits _ _ _ c.args.results.now c.if-results-labels.false _ _ c.in_ok-read_into.ensures _ c.count-n.ensures

pub slice_bounds-judge_rows-end : goal.slice_bounds-judge_rows-end
slice_bounds-judge_rows-end c = end_inside _ _ _ c.args.results.now c.if-results-labels.false _ _ c.in_ok-read_into.ensures _ c.count-n.ensures

pub slice_bounds-judge_rows-end-2 : goal.slice_bounds-judge_rows-end-2
slice_bounds-judge_rows-end-2 c = front_long _ _ _ c.args.results.now c.if-results-labels.false _ _ c.in_ok-read_into.ensures _ c.count-n.ensures

pub judge_rows-requires : goal.judge_rows-requires
judge_rows-requires c = (front_count _ _ _ c.args.results.now c.if-results-labels.false _ _ c.in_ok-read_into.ensures _ c.count-n.ensures, front_legal _ _ _ c.args.results.now c.if-results-labels.false _ _ c.in_ok-read_into.ensures _ c.count-n.ensures, results_fit _ _ _ c.args.results.now c.if-results-labels.false _ _ c.in_ok-read_into.ensures _ c.count-n.ensures)

pub returns : goal.returns
returns c = read_and_judged _ _ _ _ c.if-results-labels.false _ _ c.in_ok-read_into.ensures _ c.count-n.ensures _ _ c.judge_rows.ensures.0 c.judge_rows.ensures.1
