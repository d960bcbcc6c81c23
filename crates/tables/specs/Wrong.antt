-- Wrong tables, each right but for one thing.
use Rattle.std.specs.Prelude.{◌∷◌}
use Rattle.basis.specs.Prelude.{ℕ, [], get_or}
use Rattle.sheet.specs.Values.{no_sheet}
use Rattle.sheet.specs.declared.row.Sheet.{Sheet}
use Rattle.tables.specs.Tables.{row, sheet_of, sheet_a, sheet_b, sheet_c, sheet_d, sheet_f, fixed_sheets}

-- Sheet E without its second row.
unfoldable pub short_e : ℕ → Sheet
short_e n = get_or (sheet_a ∷ sheet_b ∷ sheet_c ∷ sheet_d ∷ sheet_of 4 (row 4 6 6 2 ∷ []) ∷ sheet_f ∷ []) n no_sheet

-- Sheet A for any number past the six.
unfoldable pub sheet_a_past : ℕ → Sheet
sheet_a_past n = get_or fixed_sheets n sheet_a
