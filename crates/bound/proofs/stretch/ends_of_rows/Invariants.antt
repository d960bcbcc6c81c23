-- `ends_of_rows` has ends whose line the sum is never below: the loop has those of the first i rows. Assumes nothing.
use Rattle.bound.proofs.Names.{sheet_in, held_in, RowsMeet}
use Rattle.bound.proofs.stretch.ends_of_rows.Given as goal

abbrev pub invariant-loop-i : goal.invariant-loop-i
invariant-loop-i l = RowsMeet (sheet_in l.turn.sheet.now) (held_in l.turn.results.now) l.turn.k l.s l.i l.ends
