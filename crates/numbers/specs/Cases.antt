-- The worked numbers (case I): their bytes, and what they are.
use Rattle.std.specs.Prelude.{◌∷◌, ◌≡◌}
use Rattle.basis.specs.Prelude.{ℕ, List, []}
use Rattle.basis.specs.Readers.{Step, ok, refuse}
use Rattle.numbers.specs.Numbers.{number}

-- Bytes, and what reading a number at their start gives.
pub record NumberCase : Type 0 where
  pub bytes : List ℕ
  pub gives : Step ℕ

-- Number 80 01 is 128; 80 00 is refusal 3.
abbrev pub case_i : List NumberCase
case_i = record { bytes = 0x80 ∷ 0x01 ∷ []; gives = ok 128 2 } ∷ record { bytes = 0x80 ∷ 0x00 ∷ []; gives = refuse 3 0 } ∷ []

-- A case is right where reading its bytes gives what it says.
abbrev pub RightNumber : NumberCase → Type 0
RightNumber c = number c.bytes 0 ≡ c.gives
