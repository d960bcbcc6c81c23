-- The refusals of the writer, each with its place, as the table has them.
use Rattle.std.specs.Prelude.{◌<◌, ◌≡◌}
use Rattle.basis.specs.Prelude.{ℕ}

-- What the writer of a sheet of n rows may refuse by: 10 at 0, 6 at a row, 15 at 0.
pub data SheetRefusal (n number place : ℕ) : Type 0 where
  illegal_sheet : number ≡ 10 → place ≡ 0 → SheetRefusal n number place
  bad_label : number ≡ 6 → place < n → SheetRefusal n number place
  no_room : number ≡ 15 → place ≡ 0 → SheetRefusal n number place
