-- Wrong rules of a sheet that is written, each the rule of wish 2 but for one thing, and the lists and bytes that tell them.
use Rattle.std.specs.Prelude.{◌+◌, ◌/◌, ◌%◌, ◌∷◌, ◌++◌}
use Rattle.basis.specs.Prelude.{ℕ, zero, suc, List, [], map, length, set, take, replicate, ltb}
use Rattle.basis.specs.Limits.{most_groups}
use Rattle.basis.specs.Words.{pick}
use Rattle.basis.specs.Refusals.{Outcome, accepted, refused, is_accepted, or_else, first_of, needed, room_for}
use Rattle.basis.specs.Lent.{Answer, answer, written_told, written_by}
use Rattle.std.specs.Prelude.{Result}
use Rattle.basis.specs.declared.refusal.Refusal.{Refusal}
use Rattle.sheet.specs.Legal.{legal}
use Rattle.sheet.specs.declared.row.Sheet.{Sheet}
use Rattle.reader.specs.Form.{Entry, Held, mark_bytes}
use Rattle.reader.specs.Lists.{part_in}
use Rattle.writer.specs.Form.{sheet_bytes}
use Rattle.writer.specs.Answers.{part_of, held_by, is_label, label_at, check_sheet, write_sheet}

-- The code's answer with the buffer after it.
abbrev pub written_answer : Result ℕ Refusal × List ℕ → Answer
written_answer (r, out) = written_told r out

-- A sheet written by another rule of its bytes.
unfoldable pub written_as : (Held → List ℕ) → Sheet → List ℕ → List ℕ → List ℕ → Answer
written_as form h s labels out = written_by (check_sheet h s labels) (form (held_by h s labels)) out

-- A sheet written after another check of its labels.
unfoldable pub checked_by : (Sheet → List ℕ → List ℕ → Outcome) → Sheet → List ℕ → List ℕ → List ℕ → Answer
checked_by check h s labels out = written_by (or_else (needed (legal h) 10) (check h s labels)) (sheet_bytes (held_by h s labels)) out

-- A sheet of which each row is made another.
unfoldable pub each_as : (Entry → Entry) → Held → Held
each_as f h = record { processors = h.processors; entries = map f h.entries }

-- A label is cut at 15 bytes.
unfoldable pub cut_at_fifteen : Held → List ℕ
cut_at_fifteen h = sheet_bytes (each_as (λ e. record { label = take 15 e.label; row = e.row }) h)

-- A row's deadline and budget are exchanged.
unfoldable pub exchanged : Held → List ℕ
exchanged h = sheet_bytes (each_as swapped h)
  where
    swapped : Entry → Entry
    swapped e =
        record {
          label = e.label;
          row = record { threads = e.row.threads; separation = e.row.separation; deadline = e.row.budget; budget = e.row.deadline };
        }

-- At most g groups, and one of zero after the last.
unfoldable pub spelt_more : ℕ → ℕ → List ℕ
spelt_more zero v = []
spelt_more (suc g) v = pick (ltb v 128) ((128 + v) ∷ 0 ∷ []) ((128 + v % 128) ∷ spelt_more g (v / 128))

-- Rows by another spelling of their numbers.
unfoldable pub rows_spelt : (ℕ → List ℕ) → List Entry → List ℕ
rows_spelt spelling [] = []
rows_spelt spelling (e ∷ es) =
    spelling (length e.label) ++ e.label
    ++ (spelling e.row.threads ++ spelling e.row.separation ++ spelling e.row.deadline ++ spelling e.row.budget)
    ++ rows_spelt spelling es

-- Each number is written with one group too many.
unfoldable pub group_more : Held → List ℕ
group_more h = mark_bytes ++ spelt_more most_groups h.processors ++ spelt_more most_groups (length h.entries) ++ rows_spelt (spelt_more most_groups) h.entries

-- The last refusal among f 0, .., f (n - 1).
unfoldable pub last_of : ℕ → (ℕ → Outcome) → Outcome
last_of zero f = accepted
last_of (suc n) f = or_else (f n) (last_of n f)

-- The place of 6 is the last row at fault.
unfoldable pub last_at_fault : Sheet → List ℕ → List ℕ → Outcome
last_at_fault h s labels = last_of h.count (label_at s labels)

-- A label that lies outside its bytes is taken as far as it goes.
unfoldable pub as_far_as_it_goes : Sheet → List ℕ → List ℕ → Outcome
as_far_as_it_goes h s labels = first_of h.count (λ k. pick (is_label (part_of s (part_in labels k))) accepted (refused 6 k))

-- 15 before 6.
unfoldable pub fifteen_before_six : Sheet → List ℕ → List ℕ → List ℕ → Answer
fifteen_before_six h s labels out =
    checked_by (λ h s labels. or_else (room_for (length (sheet_bytes (held_by h s labels))) (length out)) (first_of h.count (label_at s labels))) h s labels out

-- A byte, the first of the mark, is written beside a refusal too.
unfoldable pub byte_beside : Sheet → List ℕ → List ℕ → List ℕ → Answer
byte_beside h s labels out =
    let a = write_sheet h s labels out in
    pick (is_accepted a.outcome) a (answer a.outcome a.count (set a.lent 0 0x47))

-- The byte past the file is cleared.
unfoldable pub past_cleared : Sheet → List ℕ → List ℕ → List ℕ → Answer
past_cleared h s labels out =
    let a = write_sheet h s labels out in
    answer a.outcome a.count (set a.lent a.count 0)

-- One processor and a row (1,5,3,2).
abbrev pub one_row : List ℕ
one_row = 1 ∷ 1 ∷ 1 ∷ 5 ∷ 3 ∷ 2 ∷ []

-- The same with the label p, and where it lies in these bytes.
abbrev pub one_row_bytes : List ℕ
one_row_bytes = 0x47 ∷ 0x53 ∷ 0x48 ∷ 0x01 ∷ 1 ∷ 1 ∷ 1 ∷ 0x70 ∷ 1 ∷ 5 ∷ 3 ∷ 2 ∷ []

abbrev pub one_row_labels : List ℕ
one_row_labels = 7 ∷ 1 ∷ []

-- That row twice.
abbrev pub two_rows : List ℕ
two_rows = 1 ∷ 2 ∷ 1 ∷ 5 ∷ 3 ∷ 2 ∷ 1 ∷ 5 ∷ 3 ∷ 2 ∷ []

-- A label of 16 bytes, and where it lies in them.
abbrev pub sixteen_bytes : List ℕ
sixteen_bytes = replicate 16 0x70

abbrev pub sixteen_labels : List ℕ
sixteen_labels = 0 ∷ 16 ∷ []

-- One byte, and a label that would have two of it.
abbrev pub one_byte : List ℕ
one_byte = 0x70 ∷ []

abbrev pub outside_labels : List ℕ
outside_labels = 0 ∷ 2 ∷ []

-- So many bytes, each 9.
abbrev pub nines : ℕ → List ℕ
nines n = replicate n 9
