-- What a file can hold: every number in its range, and a label for every row.
use Rattle.std.specs.Prelude.{◌≤◌, ◌≡◌}
use Rattle.basis.specs.Prelude.{ℕ, true, length}
use Rattle.basis.specs.Limits.{most_processors, most_rows}
use Rattle.basis.specs.Words.{Each}
use Rattle.sheet.specs.Legal.{LegalRow}
use Rattle.reader.specs.Form.{Entry, Held}
use Rattle.writer.specs.Answers.{is_label}

-- A row on m processors, with its label.
pub record GoodEntry (m : ℕ) (e : Entry) : Type 0 where
  pub labelled : is_label e.label ≡ true
  pub in_ranges : LegalRow m e.row

-- A whole sheet.
pub record Good (h : Held) : Type 0 where
  pub some_processors : 1 ≤ h.processors
  pub at_most_processors : h.processors ≤ most_processors
  pub some_rows : 1 ≤ length h.entries
  pub at_most_rows : length h.entries ≤ most_rows
  pub rows : Each (GoodEntry h.processors) h.entries
