-- What the laws of a verdict speak of: the last line, what follows NO VERDICT, and rows that are reported.
use Rattle.std.specs.Prelude.{◌≤◌, ◌≡◌, ◌⊎◌, ◌++◌}
use Rattle.basis.specs.Prelude.{ℕ, List, []}
use Rattle.basis.specs.Refusals.{refused}
use Rattle.reader.specs.Answers.{reading}
use Rattle.sheet.specs.declared.row.Row.{Row}
use Rattle.page.specs.Decimals.{decimal}
use Rattle.dashboard.specs.Words.{space, newline}

-- A text ends in these bytes.
pub record EndsIn (text last : List ℕ) : Type 0 where
  pub before : List ℕ
  pub whole : text ≡ before ++ last

-- A text's last line is these bytes: nothing or the end of a line stands before them.
pub record LastLine (text last : List ℕ) : Type 0 where
  pub before : List ℕ
  pub whole : text ≡ before ++ last
  pub starts : (before ≡ []) ⊎ EndsIn before newline

-- A row whose threads, separation, deadline and budget are all reported.
pub record Reported (row : Row) : Type 0 where
  pub threads : 1 ≤ row.threads
  pub separation : 1 ≤ row.separation
  pub deadline : 1 ≤ row.deadline
  pub budget : 1 ≤ row.budget

-- What follows NO VERDICT: the number of the reader's refusal, 1 to 9, and its place.
pub record NoVerdict (s rest : List ℕ) : Type 0 where
  pub number : ℕ
  pub place : ℕ
  pub from_reader : (reading s).0 ≡ refused number place
  pub some : 1 ≤ number
  pub most : number ≤ 9
  pub follows : rest ≡ decimal number ++ space ++ decimal place ++ newline
