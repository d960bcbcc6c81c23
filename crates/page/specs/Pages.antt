-- A lent buffer after a text was written into it: as much as has room.
use Rattle.std.specs.Prelude.{◌+◌, ◌∷◌, ◌++◌}
use Rattle.basis.specs.Prelude.{ℕ, min, List, [], length, set, take, drop, ltb}
use Rattle.basis.specs.Words.{pick}

-- A buffer, and a place in it.
abbrev pub Page : Type 0
Page = List ℕ × ℕ

-- A buffer that begins with as much of a text as has room, the rest as it was, and how many bytes of the text that is.
unfoldable pub written : List ℕ → List ℕ → Page
written text buffer = (take (length buffer) text ++ drop (length text) buffer, min (length text) (length buffer))

-- One byte put at the place, where there is room, and the next place.
unfoldable pub put_one : Page → ℕ → Page
put_one p b = pick (ltb p.1 (length p.0)) (set p.0 p.1 b, p.1 + 1) p

-- Byte after byte of a text.
unfoldable pub said : Page → List ℕ → Page
said p [] = p
said p (b ∷ text) = said (put_one p b) text
