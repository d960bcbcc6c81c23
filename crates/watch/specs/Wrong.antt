-- Wrong rules of the lines and the buffer, each the right one but for one thing, and the lists that tell them.
use Rattle.std.specs.Prelude.{◌-◌, ◌∷◌}
use Rattle.basis.specs.Prelude.{ℕ, suc, List, [], take, replicate}
use Rattle.basis.specs.Refusals.{Outcome, accepted, refused}
use Rattle.sheet.specs.declared.row.Sheet.{Sheet}
use Rattle.machine.specs.Answers.{SlotAnswer}
use Rattle.machine.specs.Lists.{slot_in}
use Rattle.page.specs.Pages.{written}
use Rattle.watch.specs.declared.ends.File.{File}
use Rattle.watch.specs.declared.ends.File.TheVariants as files
use Rattle.watch.specs.Lines.{slot_line, end_line, refused_slot, refused_file}
use Rattle.watch.specs.Longest.{line_size}
use Rattle.watch.specs.Texts.{no_codes, line_of, PlayAnswer, play_answer}

-- A slot that is played, with another line.
abbrev pub played_by : (SlotAnswer (List ℕ) → List ℕ) → Sheet → List ℕ → List ℕ → List ℕ → PlayAnswer
played_by line h list releases buffer =
    let a = slot_in h list releases no_codes in
    play_answer a.outcome a.state (written (line a) buffer)

-- The line of a slot, that of a refused one being another.
abbrev pub line_by : ℕ → ℕ → (ℕ → ℕ → List ℕ) → SlotAnswer (List ℕ) → List ℕ
line_by n k other a = go a.outcome
  where
    go : Outcome → List ℕ
    go accepted = slot_line k (take n a.codes)
    go (refused number row) = other number row

-- A refused slot is printed as one without rows.
unfoldable pub refused_is_empty : Sheet → List ℕ → List ℕ → ℕ → List ℕ → PlayAnswer
refused_is_empty h list releases k = played_by (line_by h.count k (λ number row. slot_line k [])) h list releases

-- The row of a refused slot is left out: it is always row 0.
unfoldable pub row_zero : Sheet → List ℕ → List ℕ → ℕ → List ℕ → PlayAnswer
row_zero h list releases k = played_by (line_by h.count k (λ number row. refused_slot k number 0)) h list releases

-- The codes are those of the buffer before the slot.
unfoldable pub codes_before : Sheet → List ℕ → List ℕ → ℕ → List ℕ → PlayAnswer
codes_before h list releases k = played_by (λ a. line_of h.count k a.outcome no_codes) h list releases

-- The last row's code is left out.
unfoldable pub last_code_lost : Sheet → List ℕ → List ℕ → ℕ → List ℕ → PlayAnswer
last_code_lost h list releases k = played_by (λ a. line_of (h.count - 1) k a.outcome a.codes) h list releases

-- The slots are counted from one.
unfoldable pub slots_from_one : Sheet → List ℕ → List ℕ → ℕ → List ℕ → PlayAnswer
slots_from_one h list releases k = played_by (λ a. line_of h.count (suc k) a.outcome a.codes) h list releases

-- The state's list is as it was.
unfoldable pub state_kept : Sheet → List ℕ → List ℕ → ℕ → List ℕ → PlayAnswer
state_kept h list releases k buffer =
    let a = slot_in h list releases no_codes in
    play_answer a.outcome list (written (line_of h.count k a.outcome a.codes) buffer)

-- The last line tells the number of the last slot, not how many were done.
unfoldable pub last_slot : ℕ → List ℕ
last_slot slots = end_line (slots - 1)

-- The last line tells no number.
unfoldable pub no_number : ℕ → List ℕ
no_number slots = 0x53 ∷ 0x4C ∷ 0x4F ∷ 0x54 ∷ 0x53 ∷ 0x0A ∷ []

-- Number and place are exchanged.
unfoldable pub place_first : File → ℕ → ℕ → List ℕ
place_first file number place = refused_file file place number

-- The other file is named.
unfoldable pub other_file : File → ℕ → ℕ → List ℕ
other_file files.Sheet = refused_file files.Scenario
other_file files.Scenario = refused_file files.Sheet

-- A buffer of ones.
unfoldable pub line_of_ones : List ℕ
line_of_ones = replicate line_size 1

-- A buffer that is one byte short.
unfoldable pub line_too_small : List ℕ
line_too_small = replicate (line_size - 1) 0

-- A state of sheet C as a list: one slot since a job of each row, of which nothing remains.
abbrev pub early_list_c : List ℕ
early_list_c = 0 ∷ 1 ∷ 0 ∷ 1 ∷ []

-- A buffer of thirty bytes, in which each of these lines is whole.
abbrev pub thirty : List ℕ
thirty = replicate 30 0
