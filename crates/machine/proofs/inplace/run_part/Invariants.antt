-- `run_part` meets its promise. Assumes nothing.
use Rattle.basis.specs.Prelude.{◌≡◌, true}
use Rattle.machine.proofs.Names.{accepted, sheet_in, legal_state, run_answer, course, state_in}
use Rattle.machine.proofs.inplace.run_part.Given as goal

abbrev pub invariant-loop-done : goal.invariant-loop-done
invariant-loop-done l =
    (legal_state (sheet_in l.sheet.list.now) (state_in l.list) ≡ true)
    × (course (sheet_in l.sheet.list.now) l.releases (run_answer 0 accepted (state_in l.initial.list) l.initial.codes) l.done ≡ run_answer l.done accepted (state_in l.list) l.codes)
