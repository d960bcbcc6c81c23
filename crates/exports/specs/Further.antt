-- What the further calls for other programs answer: a number in bytes, a sheet's list in its ranges, the worked sheets, and a run of the box's own loop.
use Rattle.basis.specs.Prelude.{ℕ, List, length}
use Rattle.basis.specs.Refusals.{Outcome, accepted, refused, or_else, needed, room_for}
use Rattle.basis.specs.Upto.{pair_cell}
use Rattle.basis.specs.Readers.{Step, ok, refuse}
use Rattle.numbers.specs.Numbers.{number, up_to}
use Rattle.sheet.specs.Legal.{legal}
use Rattle.sheet.specs.Lists.{filled, sheet_in}
use Rattle.sheet.specs.declared.row.Sheet.{Sheet}
use Rattle.tables.specs.Tables.{fixed_sheet}
use Rattle.machine.specs.States.{State, record_at}
use Rattle.machine.specs.Lists.{state_long}
use Rattle.machine.specs.Answers.{RunAnswer, fresh, run}
use Rattle.exports.specs.Answers.{told, fields_in}

-- What reading a number tells: its value and the place after it, or a refusal, beside which both are as they were.
unfoldable pub step_told : Step ℕ → ℕ × ℕ → (ℕ × ℕ) × (ℕ × ℕ)
step_told (ok value after) found = ((0, 0), (value, after))
step_told (refuse k place) found = ((k, place), found)

-- The number at a place of some bytes.
unfoldable pub number_on : List ℕ → ℕ → ℕ × ℕ → (ℕ × ℕ) × (ℕ × ℕ)
number_on s at found = step_told (number s at) found

-- The same for a number from 1 to most: 7 where it is zero, 8 where it is over.
unfoldable pub up_to_on : List ℕ → ℕ → ℕ → ℕ × ℕ → (ℕ × ℕ) × (ℕ × ℕ)
up_to_on s at most found = step_told (up_to most 7 8 s at) found

-- A worked sheet in a list: 15 where there is no room for its rows.
unfoldable pub fixed_in : ℕ → List ℕ → (ℕ × ℕ) × List ℕ
fixed_in k list = fields_in (accepted, fixed_sheet k) list

-- The number at place i of the list of a state, remaining and since of each row: past the rows it is zero.
abbrev pub state_cell : State → ℕ → ℕ
state_cell t = pair_cell (λ k. (record_at t k).job.remaining) (λ k. (record_at t k).job.since)

-- What a run tells, with a list that is made the state after it.
abbrev pub course_told : RunAnswer State → List ℕ → (ℕ × ℕ) × (ℕ × (List ℕ × List ℕ))
course_told c list = (told c.outcome, (c.done, (filled (state_cell c.state) list, c.codes)))

-- A run that is begun where its list and its sheet allow it; else nothing is done, and all that was lent is as it was.
abbrev pub box_by : Outcome → RunAnswer State → List ℕ → List ℕ → (ℕ × ℕ) × (ℕ × (List ℕ × List ℕ))
box_by accepted c list codes = course_told c list
box_by (refused number place) c list codes = ((number, place), (0, (list, codes)))

-- A run from the fresh state of a sheet's list: 10, then the room for the state, then as a run.
unfoldable pub box_of : Sheet → List ℕ → List ℕ → List ℕ → (ℕ × ℕ) × (ℕ × (List ℕ × List ℕ))
box_of h list releases codes =
    box_by (or_else (needed (legal h) 10) (room_for (state_long h.count) (length list))) (run h (fresh h).state releases codes) list codes

unfoldable pub box_on : List ℕ → List ℕ → List ℕ → List ℕ → (ℕ × ℕ) × (ℕ × (List ℕ × List ℕ))
box_on sheet list releases codes = box_of (sheet_in sheet) list releases codes
