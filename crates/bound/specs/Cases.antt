-- Cases A to F: the fixed sheets 0 to 5, which `fixed_sheet` hands out, and the results that document 01 has for them.
use Rattle.std.specs.Prelude.{◌-◌, ◌≡◌, ◌∷◌, ◌++◌}
use Rattle.basis.specs.Prelude.{Bool, true, List, [], length, replicate}
use Rattle.basis.specs.Limits.{most_rows}
use Rattle.basis.specs.Words.{both}
use Rattle.basis.specs.Refusals.{accepted}
use Rattle.sheet.specs.declared.row.Sheet.{Sheet}
use Rattle.bound.specs.Bound.{Word, bound, none, unreached, is_bound, Answer, bounds_of}
use Rattle.tables.specs.Tables.{fixed_sheet}

-- A sheet, and the results of its rows.
pub record Case : Type 0 where
  pub sheet : Sheet
  pub results : List Word

-- The six cases.
abbrev pub cases : List Case
cases =
    record { sheet = fixed_sheet 0; results = bound 2 ∷ bound 5 ∷ [] }
    ∷ record { sheet = fixed_sheet 1; results = bound 2 ∷ bound 4 ∷ bound 7 ∷ [] }
    ∷ record { sheet = fixed_sheet 2; results = bound 1 ∷ none ∷ [] }
    ∷ record { sheet = fixed_sheet 3; results = bound 1 ∷ bound 4 ∷ [] }
    ∷ record { sheet = fixed_sheet 4; results = bound 2 ∷ bound 4 ∷ [] }
    ∷ record { sheet = fixed_sheet 5; results = bound 1 ∷ [] }
    ∷ []

-- Each of some results is a bound.
abbrev pub all_bounds : List Word → Bool
all_bounds [] = true
all_bounds (w ∷ ws) = both (is_bound w) (all_bounds ws)

-- The whole answer with these results: past them no row is reached, and the sheet holds where each is a bound.
abbrev pub expected : List Word → Answer
expected ws = (accepted, all_bounds ws, ws ++ replicate (most_rows - length ws) unreached)

-- A case is right where the bounds of its sheet are its results.
abbrev pub Right : Case → Type 0
Right c = bounds_of c.sheet ≡ expected c.results
