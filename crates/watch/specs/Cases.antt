-- The texts of worked runs from a fresh machine, byte for byte.
use Rattle.std.specs.Prelude.{◌≡◌, ◌∷◌}
use Rattle.basis.specs.Prelude.{ℕ, List, []}
use Rattle.sheet.specs.declared.row.Sheet.{Sheet}
use Rattle.tables.specs.Tables.{fixed_sheet}
use Rattle.machine.specs.Answers.{fresh}
use Rattle.machine.specs.Cases.{case_g, case_h}
use Rattle.watch.specs.Texts.{run_text}

-- A sheet, the releases of so many slots, and the text of their run.
pub record TextCase : Type 0 where
  pub sheet : Sheet
  pub releases : List ℕ
  pub slots : ℕ
  pub text : List ℕ

-- G: `0 3 1`, `1 0 2`, `2 3 1`, `3 0 4`, `SLOTS 4`.
abbrev pub text_g : List ℕ
text_g =
    0x30 ∷ 0x20 ∷ 0x33 ∷ 0x20 ∷ 0x31 ∷ 0x0A
    ∷ 0x31 ∷ 0x20 ∷ 0x30 ∷ 0x20 ∷ 0x32 ∷ 0x0A
    ∷ 0x32 ∷ 0x20 ∷ 0x33 ∷ 0x20 ∷ 0x31 ∷ 0x0A
    ∷ 0x33 ∷ 0x20 ∷ 0x30 ∷ 0x20 ∷ 0x34 ∷ 0x0A
    ∷ 0x53 ∷ 0x4C ∷ 0x4F ∷ 0x54 ∷ 0x53 ∷ 0x20 ∷ 0x34 ∷ 0x0A ∷ []

-- H: `0 2 1 2`, `1 3 1 2`, `2 0 2 3`, `3 0 3 0`, `SLOTS 4`.
abbrev pub text_h : List ℕ
text_h =
    0x30 ∷ 0x20 ∷ 0x32 ∷ 0x20 ∷ 0x31 ∷ 0x20 ∷ 0x32 ∷ 0x0A
    ∷ 0x31 ∷ 0x20 ∷ 0x33 ∷ 0x20 ∷ 0x31 ∷ 0x20 ∷ 0x32 ∷ 0x0A
    ∷ 0x32 ∷ 0x20 ∷ 0x30 ∷ 0x20 ∷ 0x32 ∷ 0x20 ∷ 0x33 ∷ 0x0A
    ∷ 0x33 ∷ 0x20 ∷ 0x30 ∷ 0x20 ∷ 0x33 ∷ 0x20 ∷ 0x30 ∷ 0x0A
    ∷ 0x53 ∷ 0x4C ∷ 0x4F ∷ 0x54 ∷ 0x53 ∷ 0x20 ∷ 0x34 ∷ 0x0A ∷ []

-- A release too soon after the one before it: `0 3 0`, `SLOT 1 REFUSED 13 0`.
abbrev pub text_too_soon : List ℕ
text_too_soon =
    0x30 ∷ 0x20 ∷ 0x33 ∷ 0x20 ∷ 0x30 ∷ 0x0A
    ∷ 0x53 ∷ 0x4C ∷ 0x4F ∷ 0x54 ∷ 0x20 ∷ 0x31 ∷ 0x20 ∷ 0x52 ∷ 0x45 ∷ 0x46 ∷ 0x55 ∷ 0x53 ∷ 0x45 ∷ 0x44 ∷ 0x20 ∷ 0x31 ∷ 0x33 ∷ 0x20 ∷ 0x30 ∷ 0x0A ∷ []

-- The cases: G, H, and sheet C with row 0 released in two slots one after the other.
abbrev pub run_g : TextCase
run_g = record { sheet = case_g.sheet; releases = case_g.releases; slots = 4; text = text_g }

abbrev pub run_h : TextCase
run_h = record { sheet = case_h.sheet; releases = case_h.releases; slots = 4; text = text_h }

abbrev pub too_soon : TextCase
too_soon = record { sheet = fixed_sheet 2; releases = 1 ∷ 0 ∷ 1 ∷ 0 ∷ []; slots = 2; text = text_too_soon }

-- A case is right where the text of its run from fresh is its text.
abbrev pub RightText : TextCase → Type 0
RightText c = run_text c.sheet (fresh c.sheet).state c.releases 0 c.slots ≡ c.text
