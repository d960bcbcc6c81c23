-- The names from elsewhere that the proofs here share, passed on under one name.
pub use Rattle.basis.proofs.Inside.FirstRefusal.{first_at, first_found, first_more}
pub use Rattle.basis.proofs.Inside.Lists.{get_d_all}
pub use Rattle.basis.proofs.Inside.Steps.{after_ok, map_step_no, map_step_ok, marked_ok, never_ok, not_stopped, ok_same, passed}
pub use Rattle.basis.proofs.Inside.Stores.{sets_after}
pub use Rattle.basis.proofs.Inside.Sums.{sum_grows}
pub use Rattle.basis.proofs.Inside.Words.{lt_or_le}
pub use Rattle.basis.proofs.Lent.{put_refused, put_where_room, written_same, written_whole, wrote}
pub use Rattle.basis.specs.Lent.{Answer, answer, nothing_by, written_by, written_told}
pub use Rattle.basis.specs.Limits.{most_groups, most_rows, most_separation}
pub use Rattle.basis.specs.Readers.{Bytes, Reader, Step, after, give, marked, ok, refuse, refuse_at}
unfoldable pub use Rattle.basis.specs.Readers.{begins, map_step}
pub use Rattle.basis.specs.Refusals.{Outcome, accepted, refused}
unfoldable pub use Rattle.basis.specs.Refusals.{first_of}
pub use Rattle.basis.specs.Words.{Each, pick}
unfoldable pub use Rattle.basis.specs.Words.{all_of, sum}
pub use Rattle.basis.specs.declared.refusal.Refusal.{Refusal}
pub use Rattle.numbers.proofs.Back.{Reads, at_place, reads_give, reads_number, reads_then, reads_up_to}
pub use Rattle.numbers.proofs.Inside.Bounds.{bounded, taken}
pub use Rattle.numbers.proofs.Inside.Covers.{Covers, covers_all, covers_as, covers_mark, covers_none, covers_number, covers_then, covers_up_to}
pub use Rattle.numbers.proofs.Inside.Reach.{width_grows}
pub use Rattle.numbers.proofs.OneSpelling.{spelt_more_lem, spelt_one}
pub use Rattle.numbers.specs.Numbers.{number, spell, up_to}
unfoldable pub use Rattle.numbers.specs.Numbers.{groups, spelt, up_to_by, width}
pub use Rattle.scenario.specs.Answers.{FoundSlot, filled_by, read_told, slot_handed, found_told}
unfoldable pub use Rattle.scenario.specs.Answers.{check_list, check_whole, over_at, over_budget, read_scenario, read_slot, write_scenario}
pub use Rattle.scenario.specs.Cases.{files, two_rows}
pub use Rattle.scenario.specs.Form.{Held, budget_at, mark_bytes, no_releases, no_slots, slot_before}
unfoldable pub use Rattle.scenario.specs.Form.{releases, row, scenario, slot, slots}
pub use Rattle.scenario.specs.Inside.Parts.{Counted, Fills, Landed, fill_by}
unfoldable pub use Rattle.scenario.specs.Inside.Parts.{entry_bytes}
pub use Rattle.scenario.specs.Longest.{slot_reach}
unfoldable pub use Rattle.scenario.specs.Longest.{longest_release, longest_scenario, longest_slot}
unfoldable pub use Rattle.scenario.specs.Slots.{slot_by_slot, slot_then}
pub use Rattle.scenario.specs.Windows.{Reaches, moved_answer}
unfoldable pub use Rattle.scenario.specs.Windows.{moved, moved_by}
pub use Rattle.scenario.specs.Written.{file_of}
unfoldable pub use Rattle.scenario.specs.Written.{releases_bytes, releases_in, scenario_bytes, slot_bytes, slots_bytes}
pub use Rattle.scenario.specs.declared.slot.SlotRead.{SlotRead}
pub use Rattle.sheet.proofs.Legality.{legal_is}
pub use Rattle.sheet.specs.Legal.{Legal}
unfoldable pub use Rattle.sheet.specs.Legal.{legal, legal_at, legal_row}
unfoldable pub use Rattle.sheet.specs.Lists.{sheet_in}
pub use Rattle.sheet.specs.declared.row.Sheet.{Sheet}
