-- A worked sheet with two equal labels.
use Rattle.std.specs.Prelude.{◌∷◌}
use Rattle.basis.specs.Prelude.{ℕ, List, []}
use Rattle.reader.specs.declared.row.Part.{Part}

-- Two rows, each with the label pump: sheet E of the table.
abbrev pub two_pumps : List ℕ
two_pumps =
    0x47 ∷ 0x53 ∷ 0x48 ∷ 0x01 ∷ 4 ∷ 2
    ∷ 4 ∷ 0x70 ∷ 0x75 ∷ 0x6D ∷ 0x70 ∷ 4 ∷ 6 ∷ 6 ∷ 2
    ∷ 4 ∷ 0x70 ∷ 0x75 ∷ 0x6D ∷ 0x70 ∷ 4 ∷ 6 ∷ 6 ∷ 2 ∷ []

-- The label of its first row, and of its second.
abbrev pub first_pump : Part
first_pump = record { start = 7; long = 4 }

abbrev pub second_pump : Part
second_pump = record { start = 16; long = 4 }
