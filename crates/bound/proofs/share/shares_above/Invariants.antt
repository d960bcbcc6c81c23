-- `shares_above` has what the rows above reach by their shares: the loop has that of the first i rows. Assumes nothing.
use Rattle.bound.proofs.Names.{sheet_in, held_in, Shares}
use Rattle.bound.proofs.share.shares_above.Given as goal

abbrev pub invariant-loop-i : goal.invariant-loop-i
invariant-loop-i l = Shares (sheet_in l.turn.sheet.now) (held_in l.turn.results.now) l.turn.k l.length l.i l.sum
