-- The names from elsewhere that the proofs here share, passed on under one name.
pub use Rattle.basis.proofs.Inside.Lists.{get_d_all}
pub use Rattle.basis.proofs.Inside.Tests.{tests}
pub use Rattle.basis.proofs.Inside.Upto.{length_upto, upto_below, upto_none, upto_past, upto_set}
pub use Rattle.basis.proofs.Inside.Words.{all_at, all_fails, all_one_more, all_true, at_least, at_most, both_left, both_right, both_true, lt_or_le, pick_same, within_true}
pub use Rattle.basis.specs.Limits.{most_processors, most_rows}
unfoldable pub use Rattle.basis.specs.Upto.{upto}
pub use Rattle.basis.specs.Words.{both, within}
unfoldable pub use Rattle.basis.specs.Words.{all_of}
pub use Rattle.sheet.specs.Legal.{Legal, LegalRow, no_row, row_at}
unfoldable pub use Rattle.sheet.specs.Legal.{legal, legal_at, legal_row}
pub use Rattle.sheet.specs.Lists.{number_at, sheet_cell, sheet_long}
unfoldable pub use Rattle.sheet.specs.Lists.{cleared_cell, filled, legal_rows, list_cell, row_cell, row_in, sheet_in}
pub use Rattle.sheet.specs.Values.{no_rows, no_sheet}
pub use Rattle.sheet.specs.declared.row.Row.{Row}
pub use Rattle.sheet.specs.declared.row.Sheet.{Sheet}
