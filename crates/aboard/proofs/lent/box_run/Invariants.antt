-- The loop of `box_run` has done so many slots of the course. Assumes nothing.
use Rattle.basis.specs.Prelude.{◌≡◌}
use Rattle.aboard.proofs.Names.{accepted, held, run_answer, course}
use Rattle.aboard.proofs.lent.box_run.Given as goal

abbrev pub invariant-loop-done : goal.invariant-loop-done
invariant-loop-done l = course l.sheet l.releases (run_answer 0 accepted (held l.initial.state) l.initial.codes) l.done ≡ run_answer l.done accepted (held l.state) l.codes
