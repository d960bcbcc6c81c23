-- What the functions inside the reader answer. No promise of a public function speaks of it.
use Rattle.std.specs.Prelude.{◌+◌, ◌*◌, ◌≡◌, Result, Ok, Err}
use Rattle.basis.specs.Prelude.{ℕ, List, length, set}
use Rattle.basis.specs.Limits.{longest_label, most_separation}
use Rattle.basis.specs.Readers.{Step, ok, refuse, Reader, ◌>>=◌, ◌>>◌, give}
use Rattle.basis.specs.Refusals.{Outcome, told, or_else, room_for, handed}
use Rattle.basis.specs.declared.refusal.Refusal.{Refusal}
use Rattle.basis.specs.Upto.{upto, pair_cell}
use Rattle.numbers.specs.Numbers.{up_to}
use Rattle.sheet.specs.Legal.{no_row}
use Rattle.sheet.specs.Lists.{number_at, list_cell, sheet_long}
use Rattle.sheet.specs.declared.row.Row.{Row}
use Rattle.reader.specs.Form.{Entry, entry, entries, Head}
use Rattle.reader.specs.Answers.{part_after}
use Rattle.reader.specs.Lists.{labels_long}
use Rattle.reader.specs.declared.head.Head as code
use Rattle.reader.specs.declared.row.Part.{Part}
use Rattle.reader.specs.declared.row.Entry as rows

-- The step that reading a label stands for, of which its length is told,
abbrev pub label_step : Result (Part × ℕ) Refusal → Step ℕ
label_step (Ok (p, n)) = ok p.long n
label_step (Err r) = refuse (told r).0 (told r).1

-- and the part that it is.
abbrev pub LabelAt : List ℕ → ℕ → Result (Part × ℕ) Refusal → Type 0
LabelAt s at (Ok (p, n)) = p ≡ part_after (up_to longest_label 6 6 s at)
LabelAt s at (Err r) = Unit {0}

-- The four numbers of a row on m processors.
unfoldable pub numbers : ℕ → Reader Row
numbers m = do
  t ← up_to m 7 8
  T ← up_to most_separation 7 8
  D ← up_to T 7 8
  C ← up_to D 7 8
  give (record { threads = t; separation = T; deadline = D; budget = C })

-- The step that reading a row with its label stands for, of which the row is told,
abbrev pub entry_step : Result (rows.Entry × ℕ) Refusal → Step Row
entry_step (Ok (e, n)) = ok e.row n
entry_step (Err r) = refuse (told r).0 (told r).1

-- and the part that is its label.
abbrev pub EntryAt : List ℕ → ℕ → Result (rows.Entry × ℕ) Refusal → Type 0
EntryAt s at (Ok (e, n)) = e.label ≡ part_after (up_to longest_label 6 6 s at)
EntryAt s at (Err r) = Unit {0}

-- What stands before the rows.
abbrev pub head_of : code.Head → Head
head_of h = record { processors = h.processors; count = h.count }

-- The step that reading it stands for.
abbrev pub head_step : Result (code.Head × ℕ) Refusal → Step Head
head_step (Ok (h, n)) = ok (head_of h) n
head_step (Err r) = refuse (told r).0 (told r).1

-- Nothing of a value.
abbrev pub nothing : {A : Type 0} → A → Unit {0}
nothing a = tt

-- Row i, where the rows on m processors begin here,
unfoldable pub row_from : ℕ → ℕ → Reader Entry
row_from m i = do
  entries m i
  entry m

-- its numbers, and all zero where it is refused,
abbrev pub row_got : Step Entry → Row
row_got (ok e n) = e.row
row_got (refuse number place) = no_row

unfoldable pub row_after : ℕ → List ℕ → ℕ → ℕ → Row
row_after m s at i = row_got (row_from m i s at)

-- the length of its label, before its first byte,
unfoldable pub label_from : ℕ → ℕ → Reader ℕ
label_from m i = do
  entries m i
  up_to longest_label 6 6

-- and the part that is its label.
unfoldable pub label_after : ℕ → List ℕ → ℕ → ℕ → Part
label_after m s at i = part_after (label_from m i s at)

-- The list with row k made these numbers.
unfoldable pub put_row : List ℕ → ℕ → Row → List ℕ
put_row l k row =
    set (set (set (set l (k * 4 + 2) row.threads) (k * 4 + 3) row.separation) (k * 4 + 4) row.deadline) (k * 4 + 5) row.budget

-- The list with part k made this one.
unfoldable pub put_part : List ℕ → ℕ → Part → List ℕ
put_part l k p = set (set l (k * 2) p.start) (k * 2 + 1) p.long

-- The first i rows of n stand in a list, after what stands before them,
unfoldable pub rows_in : ℕ → ℕ → List ℕ → ℕ → ℕ → List ℕ → List ℕ
rows_in m n s at i l = upto (sheet_long i) (list_cell m n (row_after m s at)) l

-- and where their labels lie in another.
unfoldable pub parts_in : ℕ → List ℕ → ℕ → ℕ → List ℕ → List ℕ
parts_in m s at i l = upto (labels_long i) (pair_cell (λ k. (label_after m s at k).start) (λ k. (label_after m s at k).long)) l

-- Where n rows from a place on are accepted, both lists have them.
abbrev pub Took : ℕ → ℕ → List ℕ → ℕ → List ℕ → List ℕ → List ℕ → List ℕ → Result ℕ Refusal → Type 0
Took m n s at l b l' b' (Ok next) = (l' ≡ rows_in m n s at n l) × (b' ≡ parts_in m s at n b)
Took m n s at l b l' b' (Err r) = Unit {0}

-- Both lists after n rows are handed over, or as they were where one has no room.
unfoldable pub handed_over : ℕ → List ℕ → List ℕ → List ℕ → List ℕ → Outcome × (List ℕ × List ℕ)
handed_over n own parts list labels =
    handed (or_else (room_for (sheet_long n) (length list)) (room_for (labels_long n) (length labels)))
    (upto (sheet_long n) (number_at own) list, upto (labels_long n) (number_at parts) labels) (list, labels)
