-- `judge_rows` judges every row: the loop has the results of the first i rows, and whether each is a bound. Assumes nothing.
use Rattle.basis.specs.Prelude.{◌≡◌}
use Rattle.bound.proofs.Names.{Legal, sheet_in, Lent, SoFar}
use Rattle.bound.proofs.judge.judge_rows.Given as goal

abbrev pub invariant-loop-i : goal.invariant-loop-i
invariant-loop-i l = (l.n ≡ (sheet_in l.sheet).count) × (Legal (sheet_in l.sheet)) × (Lent l.sheet l.results) × (SoFar (sheet_in l.sheet) l.initial.results l.results l.reached l.i)
