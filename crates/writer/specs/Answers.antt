-- What is written from a sheet's numbers and the labels of its rows, and what the writer answers.
use Rattle.std.specs.Prelude.{◌+◌, ◌∷◌, ◌++◌}
use Rattle.basis.specs.Prelude.{ℕ, zero, suc, List, [], length, get_or, take, drop, Bool, leb}
use Rattle.basis.specs.Limits.{longest_label}
use Rattle.basis.specs.Words.{pick, both, within, all_of}
use Rattle.basis.specs.Refusals.{Outcome, accepted, refused, or_else, first_of, needed}
use Rattle.basis.specs.Lent.{Answer, written_by}
use Rattle.sheet.specs.Legal.{legal, row_at}
use Rattle.sheet.specs.declared.row.Sheet.{Sheet}
use Rattle.reader.specs.Form.{Entry, Held, is_plain}
use Rattle.reader.specs.Lists.{part_in}
use Rattle.reader.specs.declared.row.Part.{Part}
use Rattle.writer.specs.Form.{sheet_bytes}

-- The bytes of a part of some bytes; of a part that lies outside, those that are there.
abbrev pub part_of : List ℕ → Part → List ℕ
part_of s p = take p.long (drop p.start s)

-- Row k with its label, of which a list says where it starts in some bytes and how long it is.
abbrev pub entry_of : Sheet → List ℕ → List ℕ → ℕ → Entry
entry_of h s labels k = record { label = part_of s (part_in labels k); row = row_at h k }

-- The first n rows.
unfoldable pub first_rows : ℕ → (ℕ → Entry) → List Entry
first_rows zero f = []
first_rows (suc n) f = first_rows n f ++ (f n ∷ [])

-- The sheet that is written: its numbers, and the labels of its rows.
abbrev pub held_by : Sheet → List ℕ → List ℕ → Held
held_by h s labels = record { processors = h.processors; entries = first_rows h.count (entry_of h s labels) }

-- Byte j is one that a label may have.
abbrev pub plain_at : List ℕ → ℕ → Bool
plain_at l j = is_plain (get_or l j 0)

-- Bytes that are a label: 1 to 16 of them, each one that a label may have.
unfoldable pub is_label : List ℕ → Bool
is_label l = both (within 1 longest_label (length l)) (all_of (length l) (plain_at l))

-- A part that lies in its bytes, and is a label.
unfoldable pub label_lies : List ℕ → Part → Bool
label_lies s p = both (leb (p.start + p.long) (length s)) (is_label (part_of s p))

-- 6 where row k has no such label; its place is the row.
unfoldable pub label_at : List ℕ → List ℕ → ℕ → Outcome
label_at s labels k = pick (label_lies s (part_in labels k)) accepted (refused 6 k)

-- 10, then 6 for the first row at fault.
unfoldable pub check_sheet : Sheet → List ℕ → List ℕ → Outcome
check_sheet h s labels = or_else (needed (legal h) 10) (first_of h.count (label_at s labels))

-- The writer's answer: 10, 6, then 15.
unfoldable pub write_sheet : Sheet → List ℕ → List ℕ → List ℕ → Answer
write_sheet h s labels out = written_by (check_sheet h s labels) (sheet_bytes (held_by h s labels)) out
