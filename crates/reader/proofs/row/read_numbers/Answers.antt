-- `read_numbers` meets its promise: each way out is a law. Assumes nothing.
use Rattle.reader.proofs.Names.{passed_on}
use Rattle.reader.proofs.Inside.Entries.{no_threads, no_separation, no_deadline, no_budget, whole_row}
use Rattle.reader.proofs.row.read_numbers.Goals as goal

pub returns-in_err-threads : goal.returns-in_err-threads
returns-in_err-threads c = rw (passed_on _ _ c.from_residual.ensures.1) (no_threads _ _ _ _ _ c.in_err-threads.ensures)

pub returns-in_err-separation : goal.returns-in_err-separation
returns-in_err-separation c = rw (passed_on _ _ c.from_residual-in_err-separation.ensures.1) (no_separation _ _ _ _ _ c.in_ok-threads.ensures _ _ c.in_err-separation.ensures)

pub returns-in_err-deadline : goal.returns-in_err-deadline
returns-in_err-deadline c = rw (passed_on _ _ c.from_residual-in_err-deadline.ensures.1) (no_deadline _ _ _ _ _ c.in_ok-threads.ensures _ _ c.in_ok-separation.ensures _ _ c.in_err-deadline.ensures)

pub returns-in_err-budget : goal.returns-in_err-budget
returns-in_err-budget c = rw (passed_on _ _ c.from_residual-in_err-budget.ensures.1) (no_budget _ _ _ _ _ c.in_ok-threads.ensures _ _ c.in_ok-separation.ensures _ _ c.in_ok-deadline.ensures _ _ c.in_err-budget.ensures)

pub returns : goal.returns
returns c = whole_row _ _ _ _ _ c.in_ok-threads.ensures _ _ c.in_ok-separation.ensures _ _ c.in_ok-deadline.ensures _ _ c.in_ok-budget.ensures
