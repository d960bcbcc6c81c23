-- `rows_of` has the result of every row: the loop has those of the first i. Assumes nothing.
use Rattle.basis.specs.Prelude.{◌≡◌, map}
use Rattle.bound.proofs.Names.{upto, word, all_unreached, word_at}
use Rattle.bound.proofs.results.rows_of.Given as goal

abbrev pub invariant-loop-i : goal.invariant-loop-i
invariant-loop-i l = map word l.rows ≡ upto l.i (word_at l.results) all_unreached
