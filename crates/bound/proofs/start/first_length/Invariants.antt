-- `first_length` is a length before which none passes: the latest that the rows above give. Assumes nothing.
use Rattle.bound.proofs.Names.{sheet_in, held_in, Starts}
use Rattle.bound.proofs.start.first_length.Given as goal

abbrev pub invariant-loop-j : goal.invariant-loop-j
invariant-loop-j l = Starts (sheet_in l.turn.sheet.now) (held_in l.turn.results.now) l.turn.k l.first
