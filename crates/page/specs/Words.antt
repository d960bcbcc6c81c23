-- The bytes that stand between words and after a line.
use Rattle.std.specs.Prelude.{◌∷◌}
use Rattle.basis.specs.Prelude.{ℕ, List, []}

-- A space.
abbrev pub space : List ℕ
space = 0x20 ∷ []

-- The end of a line.
abbrev pub newline : List ℕ
newline = 0x0A ∷ []
