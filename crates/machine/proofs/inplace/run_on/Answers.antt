-- `run_on` meets its promise. Assumes nothing.
use Rattle.machine.proofs.Inside.Answers.{run_state, run_list, run_buffer}
use Rattle.machine.proofs.Inside.RunsInPlace.{run_in_refused, run_in_done}
use Rattle.machine.proofs.inplace.run_on.Goals as goal

pub run_part-requires : goal.run_part-requires
run_part-requires c =
    let told = rw (← c.in-Ok.ensures.own) at c.in-Ok.ensures.told in
    (run_state _ _ _ _ told, run_list _ _ _ _ told _, run_buffer _ _ _ _ told _)

pub returns-in-Ok : goal.returns-in-Ok
returns-in-Ok c =
    let told = rw (← c.in-Ok.ensures.own) at c.in-Ok.ensures.told in
    rw (← c.in-Ok.ensures.own) (run_in_done _ _ _ _ c.in-Ok.sheet.fine told _ c.in-Ok.sheet.counted _ _ _ c.run_part.ensures.0 c.run_part.ensures.1 c.run_part.auto.list)

pub returns-in-Err : goal.returns-in-Err
returns-in-Err c = run_in_refused _ _ _ _ _ _ c.in-Err.ensures.told
