-- What the functions inside ask of the lists that they are lent. No promise of a public function speaks of it.
use Rattle.std.specs.Prelude.{◌≤◌, ◌<◌, ◌≡◌}
use Rattle.basis.specs.Prelude.{ℕ, List}
use Rattle.basis.specs.Limits.{most_rows}
use Rattle.sheet.specs.Lists.{sheet_long}
use Rattle.reader.specs.Answers.{reading, label_in}
use Rattle.reader.specs.Lists.{labels_long, part_in}

-- A list says of the first n rows where the bytes, read as a sheet, have their labels.
abbrev pub LabelsLie : List ℕ → List ℕ → ℕ → Type 0
LabelsLie s parts n = (i : ℕ) → i < n → part_in parts i ≡ label_in s i

-- Lists of these lengths have room for the sheet that the bytes hold, and for its labels and its results, and are no longer than those for every row.
pub record Roomy (s : List ℕ) (long pairs : ℕ) : Type 0 where
  pub for_rows : sheet_long (reading s).1.count ≤ long
  pub for_labels : labels_long (reading s).1.count ≤ pairs
  pub few_long : long ≤ sheet_long most_rows
  pub few_pairs : pairs ≤ labels_long most_rows
