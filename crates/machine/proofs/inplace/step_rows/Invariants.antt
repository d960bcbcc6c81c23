-- `step_rows` meets its promise. Assumes nothing.
use Rattle.basis.specs.Prelude.{◌≡◌}
use Rattle.machine.proofs.Names.{upto, sheet_in, free, next, code, given, state_in, put_to}
use Rattle.machine.proofs.inplace.step_rows.Given as goal

abbrev pub invariant-loop-i : goal.invariant-loop-i
invariant-loop-i l =
    (l.free ≡ free (given (sheet_in l.sheet.list.now) (state_in l.initial.list) l.releases) l.i)
    × (l.list ≡ put_to l.i (next (given (sheet_in l.sheet.list.now) (state_in l.initial.list) l.releases)) l.initial.list)
    × (l.codes ≡ upto l.i (code (given (sheet_in l.sheet.list.now) (state_in l.initial.list) l.releases)) l.initial.codes)
