-- What reading into lent lists answers: the sheet's list, and the list of where each label lies.
use Rattle.std.specs.Prelude.{◌+◌, ◌*◌}
use Rattle.basis.specs.Prelude.{ℕ, List, length}
use Rattle.basis.specs.Refusals.{Outcome, or_else, room_for, handed}
use Rattle.basis.specs.Upto.{upto, pair_cell}
use Rattle.sheet.specs.Lists.{number_at, sheet_cell, sheet_long}
use Rattle.sheet.specs.declared.row.Sheet.{Sheet}
use Rattle.reader.specs.declared.row.Part.{Part}
use Rattle.reader.specs.Answers.{reading, label_in}

-- The places that a list needs for the labels of so many rows.
abbrev pub labels_long : ℕ → ℕ
labels_long n = n * 2

-- The number at place i of the list of labels: of each row where its label starts, and how long it is.
abbrev pub label_cell : List ℕ → ℕ → ℕ
label_cell s = pair_cell (λ k. (label_in s k).start) (λ k. (label_in s k).long)

-- Part k of a list of labels.
unfoldable pub part_in : List ℕ → ℕ → Part
part_in l k = record { start = number_at l (k * 2); long = number_at l (k * 2 + 1) }

-- The reader's refusals, then 15 where a list has no room for the rows; what stands in the lists past the rows is as it was.
unfoldable pub into_lists : Outcome × Sheet → List ℕ → List ℕ → List ℕ → Outcome × (List ℕ × List ℕ)
into_lists (o, h) s list labels =
    handed (or_else o (or_else (room_for (sheet_long h.count) (length list)) (room_for (labels_long h.count) (length labels))))
    (upto (sheet_long h.count) (sheet_cell h) list, upto (labels_long h.count) (label_cell s) labels) (list, labels)

-- Reading some bytes into a list and a list of labels.
unfoldable pub read_into : List ℕ → List ℕ → List ℕ → Outcome × (List ℕ × List ℕ)
read_into s list labels = into_lists (reading s) s list labels
