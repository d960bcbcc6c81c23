-- The results of a sheet as a list of plain numbers: of each row its word as a number, and its bound.
use Rattle.std.specs.Prelude.{◌+◌, ◌*◌, Result, Ok, Err}
use Rattle.basis.specs.Prelude.{ℕ, Bool, false, List, length, get_or, set, eqb}
use Rattle.basis.specs.Words.{pick}
use Rattle.basis.specs.Upto.{upto, pair_cell}
use Rattle.basis.specs.Refusals.{Outcome, or_else, room_for, handed}
use Rattle.basis.specs.declared.refusal.Refusal.{Refusal}
use Rattle.sheet.specs.Lists.{number_at, filled, sheet_in}
use Rattle.sheet.specs.declared.row.Sheet.{Sheet}
use Rattle.reader.specs.Answers.{reading}
use Rattle.reader.specs.Lists.{read_into}
use Rattle.bound.specs.Test.{passes}
use Rattle.bound.specs.Bound.{Word, bound, none, unreached, value_of, result_of, all_unreached, Answer, bounds_of}

-- A result's word as a number: 0 unreached, 1 bound, 2 none.
abbrev pub word_number : Word → ℕ
word_number unreached = 0
word_number (bound r) = 1
word_number none = 2

-- A result's bound, and zero where there is none.
abbrev pub bound_number : Word → ℕ
bound_number w = (value_of w).0

-- The places that a list needs for the results of so many rows.
abbrev pub results_long : ℕ → ℕ
results_long n = n * 2

-- The number at place i of a list of results: past the rows it is zero.
unfoldable pub result_cell : List Word → ℕ → ℕ
result_cell ws = pair_cell (λ k. word_number (get_or ws k unreached)) (λ k. bound_number (get_or ws k unreached))

-- Whether the sheet holds, as the code answers it: beside a refusal it does not.
abbrev pub holding : Result Bool Refusal → Bool
holding (Ok holds) = holds
holding (Err r) = false

-- What a lent list is made by an answer for n rows: the answer's refusal, then 15 where the list has no room; beside a refusal the sheet does not hold, and the list is as it was.
unfoldable pub results_on : ℕ → Answer → List ℕ → Outcome × (Bool × List ℕ)
results_on n (o, holds, ws) list =
    handed (or_else o (room_for (results_long n) (length list))) (holds, filled (result_cell ws) list) (false, list)

-- The bounds of the sheet in a list, put into a list of results: the outcome, whether the sheet holds, and the list afterwards.
unfoldable pub bounds_on : List ℕ → List ℕ → Outcome × (Bool × List ℕ)
bounds_on sheet list = results_on (sheet_in sheet).count (bounds_of (sheet_in sheet)) list

-- Bytes read and judged, in three lent lists: the sheet's, that of its labels and that of its results. 15 where there is less room for results than for labels, then what reading
-- into the first two says; whether the sheet holds, and the lists, in which what stands past the rows is as it was. Beside a refusal each is as it was.
unfoldable pub judged_bytes : List ℕ → List ℕ → List ℕ → List ℕ → Outcome × (Bool × (List ℕ × (List ℕ × List ℕ)))
judged_bytes s list labels results =
    handed (or_else (room_for (length labels) (length results)) (read_into s list labels).0)
    ((bounds_of (reading s).1).1, ((read_into s list labels).1.0, ((read_into s list labels).1.1, upto (results_long (reading s).1.count) (result_cell (bounds_of (reading s).1).2) results)))
    (false, (list, (labels, results)))

-- What follows is how the code makes such a list and reads it, of which no promise of a public function speaks. The words of a legal sheet,
abbrev pub words : Sheet → List Word
words h = upto h.count (result_of passes h) all_unreached

-- the list with result k put into it,
unfoldable pub put_result : List ℕ → ℕ → Word → List ℕ
put_result l k w = set (set l (k * 2) (word_number w)) (k * 2 + 1) (bound_number w)

-- and result k of a list.
unfoldable pub word_at : List ℕ → ℕ → Word
word_at l k = pick (eqb (number_at l (k * 2)) 0) unreached (pick (eqb (number_at l (k * 2)) 1) (bound (number_at l (k * 2 + 1))) none)
