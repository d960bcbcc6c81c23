-- Worked scenarios.
use Rattle.std.specs.Prelude.{◌∷◌}
use Rattle.basis.specs.Prelude.{ℕ, List, []}
use Rattle.basis.specs.Readers.{Step, ok, refuse}
use Rattle.sheet.specs.Values.{no_rows}
use Rattle.sheet.specs.declared.row.Sheet.{Sheet}
use Rattle.scenario.specs.Form.{Held}

-- A sheet of two rows, whose budgets are 2 and 200.
abbrev pub two_rows : Sheet
two_rows = record {
  processors = 4;
  count = 2;
  rows =
      record { threads = 4; separation = 6; deadline = 6; budget = 2 }
      ∷ record { threads = 1; separation = 500; deadline = 300; budget = 200 } ∷ no_rows 30;
}

-- Bytes after the mark, and what reading the file gives.
pub record FileCase : Type 0 where
  pub after_mark : List ℕ
  pub gives : Step Held

-- Three slots: both rows, none, the second; then each refusal.
abbrev pub files : List FileCase
files =
    record { after_mark = 2 ∷ 0 ∷ 2 ∷ 1 ∷ 0xC8 ∷ 0x01 ∷ 0 ∷ 1 ∷ 1 ∷ 7 ∷ []; gives = ok (record { slots = 3; entries = 2 ∷ 200 ∷ 0 ∷ 0 ∷ 0 ∷ 7 ∷ [] }) 14 }
    ∷ record { after_mark = []; gives = ok (record { slots = 0; entries = [] }) 4 }
    ∷ record { after_mark = 0 ∷ 1 ∷ []; gives = refuse 2 6 }
    ∷ record { after_mark = 0x80 ∷ 0 ∷ []; gives = refuse 3 4 }
    ∷ record { after_mark = 1 ∷ 2 ∷ 1 ∷ []; gives = refuse 14 5 }
    ∷ record { after_mark = 2 ∷ 1 ∷ 1 ∷ 1 ∷ 1 ∷ []; gives = refuse 20 7 }
    ∷ record { after_mark = 3 ∷ 0 ∷ 1 ∷ 1 ∷ 1 ∷ 0 ∷ []; gives = refuse 20 9 }
    ∷ record { after_mark = 1 ∷ 0 ∷ 0 ∷ []; gives = refuse 12 6 }
    ∷ record { after_mark = 1 ∷ 0 ∷ 3 ∷ []; gives = refuse 12 6 } ∷ []
