-- A sheet that was read. Assumes nothing.
use Rattle.std.specs.Prelude.{Result, Ok}
use Rattle.basis.specs.Prelude.{ℕ, ◌≤◌, ◌≡◌, ap, List, arith}
use Rattle.basis.specs.Limits.{most_rows}
use Rattle.basis.specs.Refusals.{outcome}
use Rattle.basis.specs.declared.refusal.Refusal.{Refusal}
use Rattle.sheet.specs.Lists.{sheet_in}
use Rattle.reader.specs.Lists.{read_into}
use Rattle.reader.proofs.LentLists.{count_read}
use Rattle.reader.proofs.Inside.ZeroLists.{rows_few}

-- it has no more rows than there is room for
pub few_read : (s list labels : List ℕ) (r : Result (Unit {0}) Refusal) (l b : List ℕ) → (outcome r, (l, b)) ≡ read_into s list labels → (u : Unit {0}) → r ≡ Ok u → (n : ℕ) → n ≡ (sheet_in l).count → n ≤ most_rows
few_read s list labels r l b e u f n en = omega (arith, count_read s list labels (outcome r) l b e (ap outcome f), rows_few s)
