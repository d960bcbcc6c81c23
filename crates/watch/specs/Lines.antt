-- The lines of a run, byte for byte.
use Rattle.std.specs.Prelude.{◌∷◌, ◌++◌}
use Rattle.basis.specs.Prelude.{ℕ, List, []}
use Rattle.page.specs.Decimals.{decimal}
use Rattle.page.specs.Words.{space, newline}
use Rattle.watch.specs.declared.ends.File.{File}
use Rattle.watch.specs.declared.ends.File.TheVariants.{Sheet, Scenario}

-- `SLOTS` and a space.
abbrev pub slots_word : List ℕ
slots_word = 0x53 ∷ 0x4C ∷ 0x4F ∷ 0x54 ∷ 0x53 ∷ 0x20 ∷ []

-- `SLOT` and a space.
abbrev pub slot_word : List ℕ
slot_word = 0x53 ∷ 0x4C ∷ 0x4F ∷ 0x54 ∷ 0x20 ∷ []

-- `REFUSED` and a space.
abbrev pub refused_word : List ℕ
refused_word = 0x52 ∷ 0x45 ∷ 0x46 ∷ 0x55 ∷ 0x53 ∷ 0x45 ∷ 0x44 ∷ 0x20 ∷ []

-- `sheet`.
abbrev pub sheet_word : List ℕ
sheet_word = 0x73 ∷ 0x68 ∷ 0x65 ∷ 0x65 ∷ 0x74 ∷ []

-- `scenario`.
abbrev pub scenario_word : List ℕ
scenario_word = 0x73 ∷ 0x63 ∷ 0x65 ∷ 0x6E ∷ 0x61 ∷ 0x72 ∷ 0x69 ∷ 0x6F ∷ []

-- Of each code a space and the code.
unfoldable pub codes_text : List ℕ → List ℕ
codes_text [] = []
codes_text (code ∷ codes) = (space ++ decimal code) ++ codes_text codes

-- The line of a slot: its number, and the codes of its rows.
unfoldable pub slot_line : ℕ → List ℕ → List ℕ
slot_line slot codes = decimal slot ++ codes_text codes ++ newline

-- The last line of a run: how many slots were done.
unfoldable pub end_line : ℕ → List ℕ
end_line slots = slots_word ++ decimal slots ++ newline

-- `SLOT`, its number and a space.
unfoldable pub slot_number : ℕ → List ℕ
slot_number slot = slot_word ++ decimal slot ++ space

-- `REFUSED`, the number and the place.
unfoldable pub refused_by : ℕ → ℕ → List ℕ
refused_by number place = refused_word ++ decimal number ++ space ++ decimal place

-- The line of a slot that is refused: its number, and the refusal's number and row.
unfoldable pub refused_slot : ℕ → ℕ → ℕ → List ℕ
refused_slot slot number row = slot_number slot ++ refused_by number row ++ newline

-- The name of a file.
unfoldable pub file_name : File → List ℕ
file_name Sheet = sheet_word
file_name Scenario = scenario_word

-- The one line of a file that is refused: the refusal's number and place, and which file it is.
unfoldable pub refused_file : File → ℕ → ℕ → List ℕ
refused_file file number place = refused_by number place ++ space ++ file_name file ++ newline
