-- Worked sheets, as they are held.
use Rattle.std.specs.Prelude.{◌∷◌}
use Rattle.basis.specs.Prelude.{ℕ, List, [], replicate}
use Rattle.basis.specs.Limits.{most_processors, most_rows, longest_label, most_separation}
use Rattle.reader.specs.Form.{Entry, Held}

-- The row of sheet E: label pump, threads 4, separation 6, deadline 6, budget 2.
abbrev pub pump : Entry
pump = record { label = 0x70 ∷ 0x75 ∷ 0x6D ∷ 0x70 ∷ []; row = record { threads = 4; separation = 6; deadline = 6; budget = 2 } }

-- Sheet E: that row twice, on four processors.
abbrev pub pumps : Held
pumps = record { processors = 4; entries = pump ∷ pump ∷ [] }

-- The labels of sheet E, in its own bytes.
abbrev pub labels_e : List ℕ
labels_e = 7 ∷ 4 ∷ 16 ∷ 4 ∷ []

-- A row with the longest label, and each number as large as it can be.
abbrev pub longest_entry : Entry
longest_entry =
    record {
      label = replicate longest_label 0x7E;
      row = record { threads = most_processors; separation = most_separation; deadline = most_separation; budget = most_separation };
    }

-- A sheet of as many such rows as there can be.
abbrev pub longest : Held
longest = record { processors = most_processors; entries = replicate most_rows longest_entry }
