-- The text of a slot that is played, and of a whole run.
use Rattle.std.specs.Prelude.{◌++◌}
use Rattle.basis.specs.Prelude.{ℕ, zero, suc, List, [], take, drop, replicate}
use Rattle.basis.specs.Limits.{most_rows}
use Rattle.basis.specs.Refusals.{Outcome, accepted, refused}
use Rattle.sheet.specs.declared.row.Sheet.{Sheet}
use Rattle.machine.specs.States.{State}
use Rattle.machine.specs.Answers.{RunAnswer, slot, entries_of}
use Rattle.machine.specs.Lists.{slot_in}
use Rattle.page.specs.Pages.{Page, written}
use Rattle.watch.specs.Lines.{slot_line, end_line, refused_slot}
use Rattle.watch.specs.Longest.{line_buffer}

-- A code buffer with room for every row, before a slot.
abbrev pub no_codes : List ℕ
no_codes = replicate most_rows 0

-- The line of slot k of n rows, by its outcome and the code buffer after it: the codes of its rows, or the refusal.
unfoldable pub line_of : ℕ → ℕ → Outcome → List ℕ → List ℕ
line_of n k accepted codes = slot_line k (take n codes)
line_of n k (refused number row) codes = refused_slot k number row

-- What playing a slot answers: its outcome, the state's list after it, the buffer with its line, and how many bytes of the line that is.
pub record PlayAnswer : Type 0 where
  pub outcome : Outcome
  pub state : List ℕ
  pub text : List ℕ
  pub long : ℕ

-- The answer by its parts.
abbrev pub play_answer : Outcome → List ℕ → Page → PlayAnswer
play_answer o list page = record { outcome = o; state = list; text = page.0; long = page.1 }

-- Slot k of the state in a list, and its line in a buffer.
unfoldable pub played_slot : Sheet → List ℕ → List ℕ → ℕ → List ℕ → PlayAnswer
played_slot h list releases k buffer =
    let a = slot_in h list releases no_codes in
    play_answer a.outcome a.state (written (line_of h.count k a.outcome a.codes) buffer)

-- What stands after the line of a slot: the rest where the slot is done, and nothing where it is refused.
abbrev pub going_on : Outcome → List ℕ → List ℕ
going_on accepted rest = rest
going_on (refused number row) rest = []

-- The text of so many slots from a state on, the first being slot k, with the releases of each, n to a slot: a line for each slot to the first that is refused, and where none is, how many slots were done.
unfoldable pub run_text : Sheet → State → List ℕ → ℕ → ℕ → List ℕ
run_text h t releases k zero = end_line k
run_text h t releases k (suc slots) =
    let a = slot h t (take h.count releases) no_codes in
    line_of h.count k a.outcome a.codes ++ going_on a.outcome (run_text h a.state (drop h.count releases) (suc k) slots)

-- What is printed by whoever plays so many slots one after another on the state in a list, each line by a buffer that has room for it.
unfoldable pub played_text : Sheet → List ℕ → List ℕ → ℕ → ℕ → List ℕ
played_text h list releases k zero = end_line k
played_text h list releases k (suc slots) =
    let p = played_slot h list (take h.count releases) k line_buffer in
    take p.long p.text ++ going_on p.outcome (played_text h p.state (drop h.count releases) (suc k) slots)

-- The lines of the first slots of a run, by its codes, n to a slot.
unfoldable pub lines_of : ℕ → List ℕ → ℕ → List ℕ
lines_of n codes zero = []
lines_of n codes (suc done) = lines_of n codes done ++ slot_line done (entries_of n done codes)

-- The last line of a run: how many slots were done, or the one that was refused.
unfoldable pub last_line : Outcome → ℕ → List ℕ
last_line accepted done = end_line done
last_line (refused number row) done = refused_slot done number row

-- The text of what a run of n rows has answered.
unfoldable pub answer_text : ℕ → RunAnswer State → List ℕ
answer_text n a = lines_of n a.codes a.done ++ last_line a.outcome a.done
