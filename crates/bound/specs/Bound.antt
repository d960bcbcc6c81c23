-- The bound of a row, the results of all rows, and the whole answer, each for a test that is given.
use Rattle.std.specs.Prelude.{◌+◌, ◌-◌, Result, Ok, Err}
use Rattle.basis.specs.Prelude.{ℕ, zero, suc, Bool, true, false, List, map, replicate, ltb}
use Rattle.basis.specs.Limits.{most_rows}
use Rattle.basis.specs.Words.{pick, all_of}
use Rattle.basis.specs.Upto.{upto}
use Rattle.basis.specs.Refusals.{Outcome, accepted, refused, refused_by}
use Rattle.sheet.specs.Legal.{row_at, legal}
use Rattle.sheet.specs.declared.row.Sheet.{Sheet}
use Rattle.bound.specs.Quantities.{slots, Duration}
use Rattle.bound.specs.Test.{D, C, Test, passes}
use Rattle.basis.specs.declared.refusal.Refusal.{Refusal}
use Rattle.bound.specs.declared.results.RowResult.{RowResult}
use Rattle.bound.specs.declared.results.RowResult.TheVariants.{Unreached, Bound, NoBound}
use Rattle.bound.specs.declared.results.Results.{Results}

-- A row's result: a bound with its slots, none, or not reached.
pub data Word : Type 0 where
  bound : ℕ → Word
  none : Word
  unreached : Word

-- The word that each result of the code stands for.
abbrev pub word : RowResult → Word
word Unreached = unreached
word (Bound r) = bound r
word NoBound = none

-- The result is a bound.
abbrev pub is_bound : Word → Bool
is_bound (bound r) = true
is_bound none = false
is_bound unreached = false

-- The bound's duration; where there is no bound, no slots.
abbrev pub value_of : Word → Duration
value_of (bound r) = slots r
value_of none = slots 0
value_of unreached = slots 0

-- The smallest of the n numbers from l on of which the test holds.
unfoldable pub least : (ℕ → Bool) → ℕ → ℕ → Word
least p l zero = none
least p l (suc n) = pick (p l) (bound l) (least p (suc l) n)

-- A length of so many slots passes.
abbrev pub passes_at : Test → Sheet → (ℕ → Duration) → ℕ → ℕ → Bool
passes_at test h R k l = test h R k (slots l)

-- The bound of row k, by the bounds above: the smallest length from C to D that passes, or none.
unfoldable pub bound_by : Test → Sheet → (ℕ → Duration) → ℕ → Word
bound_by test h R k = least (passes_at test h R k) (C (row_at h k)).0 ((D (row_at h k)).0 + 1 - (C (row_at h k)).0)

-- The bounds that some results hold.
abbrev pub bounds : (ℕ → Word) → ℕ → Duration
bounds ws i = value_of (ws i)

-- Row i has a bound.
abbrev pub bounded : (ℕ → Word) → ℕ → Bool
bounded ws i = is_bound (ws i)

-- The result of row k, by the results above: not reached where one of them is no bound.
unfoldable pub judge : Test → Sheet → (ℕ → Word) → ℕ → Word
judge test h ws k = pick (all_of k (bounded ws)) (bound_by test h (bounds ws) k) unreached

-- The results of the first n rows, from the top; of a row past them it says what the last of them has, and where n is 0 that it is not reached.
unfoldable pub results_to : Test → Sheet → ℕ → ℕ → Word
results_to test h zero i = unreached
results_to test h (suc n) i = pick (ltb i n) (results_to test h n i) (judge test h (results_to test h n) n)

-- The result of row k.
unfoldable pub result_of : Test → Sheet → ℕ → Word
result_of test h k = judge test h (results_to test h k) k

-- A sheet holds where every row has a bound.
unfoldable pub holds : Test → Sheet → Bool
holds test h = all_of h.count (bounded (result_of test h))

-- No row is reached.
abbrev pub all_unreached : List Word
all_unreached = replicate most_rows unreached

-- What an answer says: the outcome, whether the sheet holds, and a result for each place.
abbrev pub Answer : Type 0
Answer = Outcome × Bool × List Word

-- What the code's answer stands for; beside a refusal the sheet does not hold, and no row is reached.
abbrev pub answer : Result Results Refusal → Answer
answer (Ok r) = (accepted, r.holds, map word r.rows)
answer (Err r) = (refused_by r, false, all_unreached)

-- The answer to a sheet that is not legal: refusal 10, it does not hold, and no row is reached.
abbrev pub not_legal : Answer
not_legal = (refused 10 0, false, all_unreached)

-- The bounds of a sheet that is handed over, by a test: of a legal one each row's result, and past the rows not reached.
unfoldable pub bounds_by : Test → Sheet → Answer
bounds_by test h = pick (legal h) (accepted, holds test h, upto h.count (result_of test h) all_unreached) not_legal

-- The bounds of a sheet by the test of document 01.
abbrev pub bounds_of : Sheet → Answer
bounds_of = bounds_by passes
