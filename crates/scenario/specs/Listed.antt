-- The refusals of a scenario's reader and writer, each with its place, as the table has them.
use Rattle.std.specs.Prelude.{◌<◌, ◌≡◌}
use Rattle.basis.specs.Prelude.{ℕ, List, length}

-- What the reader of a file of these bytes may refuse by: 10 at 0; 1 at 0; 2 at the length; 3, 14, 20 and 12 at a byte of the file; 15 at 0.
pub data ReadRefusal (s : List ℕ) (number place : ℕ) : Type 0 where
  sheet_not_legal : number ≡ 10 → place ≡ 0 → ReadRefusal s number place
  no_mark : number ≡ 1 → place ≡ 0 → ReadRefusal s number place
  cut_off : number ≡ 2 → place ≡ length s → ReadRefusal s number place
  bad_number : number ≡ 3 → place < length s → ReadRefusal s number place
  missing_row : number ≡ 14 → place < length s → ReadRefusal s number place
  out_of_order : number ≡ 20 → place < length s → ReadRefusal s number place
  bad_count : number ≡ 12 → place < length s → ReadRefusal s number place
  no_room : number ≡ 15 → place ≡ 0 → ReadRefusal s number place

-- What the writer of a list for n rows may refuse by: 10 and 11 at 0, 12 at a row, 15 at 0.
pub data WriteRefusal (n number place : ℕ) : Type 0 where
  unfit_sheet : number ≡ 10 → place ≡ 0 → WriteRefusal n number place
  uneven_list : number ≡ 11 → place ≡ 0 → WriteRefusal n number place
  over_the_budget : number ≡ 12 → place < n → WriteRefusal n number place
  short_buffer : number ≡ 15 → place ≡ 0 → WriteRefusal n number place
