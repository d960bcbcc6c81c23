-- `put_fresh` meets its promise: the rows so far are fresh. Assumes nothing.
use Rattle.basis.specs.Prelude.{◌≡◌}
use Rattle.machine.proofs.Names.{sheet_in, fresh_at, put_to}
use Rattle.machine.proofs.start.put_fresh.Given as goal

abbrev pub invariant-loop-i : goal.invariant-loop-i
invariant-loop-i l = l.list ≡ put_to l.i (fresh_at (sheet_in l.sheet.list.now)) l.initial.list
