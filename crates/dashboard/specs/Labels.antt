-- The labels that stand in the lines.
use Rattle.std.specs.Prelude.{◌++◌}
use Rattle.basis.specs.Prelude.{ℕ, List, take, drop}
use Rattle.reader.specs.Answers.{label_in}
use Rattle.reader.specs.declared.row.Part.{Part}
use Rattle.page.specs.Decimals.{decimal}

-- The bytes of a part.
abbrev pub bytes_of : List ℕ → Part → List ℕ
bytes_of s p = take p.long (drop p.start s)

-- The sheet's own label of row i.
unfoldable pub own_label : List ℕ → ℕ → List ℕ
own_label s i = bytes_of s (label_in s i)

-- Some bytes, and the row number.
unfoldable pub numbered : List ℕ → ℕ → List ℕ
numbered s i = s ++ decimal i
