-- The words of a verdict and its lines, byte for byte.
use Rattle.std.specs.Prelude.{◌∷◌, ◌++◌}
use Rattle.basis.specs.Prelude.{ℕ, Bool, List, []}
use Rattle.basis.specs.Words.{pick}
use Rattle.bound.specs.Bound.{Word, bound, none, unreached}
use Rattle.page.specs.Decimals.{decimal}
pub use Rattle.page.specs.Words.{newline, space}

-- `bound` and a space.
abbrev pub bound_word : List ℕ
bound_word = 0x62 ∷ 0x6F ∷ 0x75 ∷ 0x6E ∷ 0x64 ∷ 0x20 ∷ []

-- `none -`.
abbrev pub none_word : List ℕ
none_word = 0x6E ∷ 0x6F ∷ 0x6E ∷ 0x65 ∷ 0x20 ∷ 0x2D ∷ []

-- `unreached -`.
abbrev pub unreached_word : List ℕ
unreached_word = 0x75 ∷ 0x6E ∷ 0x72 ∷ 0x65 ∷ 0x61 ∷ 0x63 ∷ 0x68 ∷ 0x65 ∷ 0x64 ∷ 0x20 ∷ 0x2D ∷ []

-- The word of a result, and the bound or a dash.
unfoldable pub result_words : Word → List ℕ
result_words (bound r) = bound_word ++ decimal r
result_words none = none_word
result_words unreached = unreached_word

-- The row number and the label, each before a space.
unfoldable pub line_start : ℕ → List ℕ → List ℕ
line_start row label = decimal row ++ space ++ label ++ space

-- The line of a row: row number, label, word, and the bound or a dash.
unfoldable pub line : ℕ → List ℕ → Word → List ℕ
line row label result = line_start row label ++ result_words result ++ newline

-- The line `HOLDS`.
abbrev pub holds_line : List ℕ
holds_line = 0x48 ∷ 0x4F ∷ 0x4C ∷ 0x44 ∷ 0x53 ∷ 0x0A ∷ []

-- The line `FAILS`.
abbrev pub fails_line : List ℕ
fails_line = 0x46 ∷ 0x41 ∷ 0x49 ∷ 0x4C ∷ 0x53 ∷ 0x0A ∷ []

-- The last line: whether the sheet holds.
abbrev pub ending : Bool → List ℕ
ending holds = pick holds holds_line fails_line

-- `NO VERDICT` and a space.
abbrev pub no_verdict_word : List ℕ
no_verdict_word = 0x4E ∷ 0x4F ∷ 0x20 ∷ 0x56 ∷ 0x45 ∷ 0x52 ∷ 0x44 ∷ 0x49 ∷ 0x43 ∷ 0x54 ∷ 0x20 ∷ []

-- `NO VERDICT` and the number.
unfoldable pub refused_by : ℕ → List ℕ
refused_by number = no_verdict_word ++ decimal number

-- The one line of a refused sheet: NO VERDICT, number, place.
unfoldable pub no_verdict : ℕ → ℕ → List ℕ
no_verdict number place = refused_by number ++ space ++ decimal place ++ newline
