-- The names from elsewhere that the proofs here share, passed on under one name.
pub use Rattle.basis.proofs.Inside.Lists.{get_d_all, map_one_to_one, map_set}
pub use Rattle.basis.proofs.Inside.Pairs.{first_cell, pair_stored, pair_zero, second_cell, second_read}
pub use Rattle.basis.proofs.Inside.Sums.{sum_grows, sum_le, sum_most, sum_one_more, sum_same, sum_weighed}
pub use Rattle.basis.proofs.Inside.Upto.{length_upto, upto_below, upto_past, upto_set}
pub use Rattle.basis.proofs.Inside.Words.{all_at, all_fails, all_one_more, all_same, lt_or_le, true_not_false}
pub use Rattle.basis.proofs.Inside.Workload.{lesser_evenly, ω_evenly, ω_least, ω_mono, ω_runs_on, ω_shares}
pub use Rattle.basis.proofs.Refusals.{handed_done, handed_found, handed_outcome, outcome_one_to_one, passed_on, refused_by_one_to_one, room_holds}
pub use Rattle.basis.specs.Limits.{most_processors, most_rows, most_separation}
pub use Rattle.basis.specs.Refusals.{Outcome, accepted, handed, or_else, outcome, refused, refused_by, room_for}
unfoldable pub use Rattle.basis.specs.Upto.{pair_cell, upto}
pub use Rattle.basis.specs.Words.{Each, both, pick}
unfoldable pub use Rattle.basis.specs.Words.{all_of, sum}
pub use Rattle.bound.specs.Bound.{Answer, Word, all_unreached, answer, bound, bounded, bounds, bounds_of, is_bound, none, not_legal, passes_at, unreached, value_of, word}
unfoldable pub use Rattle.bound.specs.Bound.{bound_by, bounds_by, holds, judge, least, result_of, results_to}
pub use Rattle.bound.specs.Inside.Parts.{on_fine, parts, pieces, FineAmount}
pub use Rattle.bound.specs.Inside.Ready.{Above, Length, Lent, Ready, RowsAbove, SoFar, Spans, held_in}
pub use Rattle.bound.specs.Inside.Skipping.{Adds, AllFail, Along, Fills, Paces, RowMeets, RowsMeet, Says, Shares, Skips, Starts, Steep, Stretches, amount_along, way}
unfoldable pub use Rattle.bound.specs.Inside.Skipping.{carried_of, joined, lasts, share_of, stay_of}
pub use Rattle.bound.specs.Lists.{bound_number, holding, results_long, word_number, words}
unfoldable pub use Rattle.bound.specs.Lists.{bounds_on, judged_bytes, put_result, result_cell, results_on, word_at}
pub use Rattle.bound.specs.Quantities.{lesser, minus, on, plus, slots, widest_rows, widest_separation, Amount, Duration}
pub use Rattle.bound.specs.Test.{C, Test}
unfoldable pub use Rattle.bound.specs.Test.{W, X, amount_of, amounts, duration_of, passes, q, room, x}
pub use Rattle.bound.specs.declared.pace.Pace.{Pace}
pub use Rattle.basis.specs.declared.refusal.Refusal.{Refusal}
pub use Rattle.bound.specs.declared.results.RowResult.{RowResult}
pub use Rattle.bound.specs.declared.stretch.Stretch.{Stretch}
pub use Rattle.bound.specs.declared.sum.Added.{Added}
pub use Rattle.reader.specs.Lists.{labels_long}
unfoldable pub use Rattle.reader.specs.Lists.{into_lists, read_into}
pub use Rattle.sheet.proofs.Legality.{legal_is}
pub use Rattle.sheet.specs.Legal.{Legal, LegalRow, row_at}
unfoldable pub use Rattle.sheet.specs.Legal.{legal, legal_at, legal_row}
pub use Rattle.sheet.specs.Lists.{sheet_cell, sheet_long}
unfoldable pub use Rattle.sheet.specs.Lists.{cleared_cell, filled, row_in, sheet_in}
pub use Rattle.sheet.specs.declared.row.Row.{Row}
pub use Rattle.sheet.specs.declared.row.Sheet.{Sheet}
pub use Rattle.tables.specs.Tables.{sheet_a, sheet_c, sheet_e, sheet_f}
unfoldable pub use Rattle.tables.specs.Tables.{fixed_sheet}
