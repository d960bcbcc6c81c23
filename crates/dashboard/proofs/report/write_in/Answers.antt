-- `write_in` meets its promise: the bytes are judged, and refused or not. Assumes nothing.
use Rattle.basis.specs.Prelude.{arith}
use Rattle.dashboard.proofs.Inside.Reports.{rows_are_read, verdict_refused, verdict_accepted}
use Rattle.dashboard.proofs.report.write_in.Goals as goal

pub invariant_of-labels : goal.invariant_of-labels
invariant_of-labels g c =
    let read = rows_are_read _ _ _ c.requires _ _ _ _ c.in-Ok.ensures _ c.count-rows.ensures in
    record { few = read.few; whole = read.labels; lie = read.lie }

pub invariant_of-board : goal.invariant_of-board
invariant_of-board g c =
    let read = rows_are_read _ _ _ c.requires _ _ _ _ c.in-Ok.ensures _ c.count-rows.ensures in
    record { few = read.few; labelled = omega arith; judged = read.judged }

pub returns-in-Ok : goal.returns-in-Ok
returns-in-Ok g c = verdict_accepted _ _ _ c.requires _ _ _ _ c.in-Ok.ensures _ c.count-rows.ensures _ _ c.put.ensures

pub returns-in-Err : goal.returns-in-Err
returns-in-Err g c = verdict_refused _ _ _ c.requires _ _ _ _ _ _ c.in-Err.ensures _ _ c.put_no_verdict.ensures
