-- No answer by a wrong rule of the calls for a scenario meets their promises. Assumes nothing.
use Rattle.basis.specs.Prelude.{refl, get_or}
use Rattle.exports.proofs.Names.{all_of, first_of, upto, begins, NoneMeets, values_apart, groups, up_to_by, legal, legal_at, legal_row, filled, row_in, sheet_in, read_scenario, write_scenario, scenario_read, scenario_written}
use Rattle.numbers.specs.Numbers.{spelt}
use Rattle.scenario.specs.Form.{row, releases, slot, slots, scenario}
use Rattle.scenario.specs.Written.{releases_in, releases_bytes, slot_bytes, slots_bytes, scenario_bytes}
use Rattle.scenario.specs.Answers.{over_budget, over_at, check_whole, check_list}
use Rattle.exports.specs.WrongScenarios.{Told, slots_made_zero, entries_counted, mark_not_counted, rest_cleared, two_alike, three_slots, one_empty, no_release, lent_nines}

-- slots made 0 beside a refusal: a release of three slots leaves what was lent
pub slots_made_zero_is_shut_out : NoneMeets (slots_made_zero two_alike three_slots lent_nines) (scenario_read two_alike three_slots lent_nines)
unfolding slots_made_zero scenario_read read_scenario scenario slots slot releases row up_to_by groups begins sheet_in row_in legal legal_at legal_row upto all_of
slots_made_zero_is_shut_out = values_apart _ _ (λ (r : Told). r.1.0) refl

-- entries counted for slots: one slot has two
pub entries_counted_is_shut_out : NoneMeets (entries_counted two_alike one_empty lent_nines) (scenario_read two_alike one_empty lent_nines)
unfolding entries_counted scenario_read read_scenario scenario slots slot releases row up_to_by groups begins sheet_in row_in legal legal_at legal_row upto all_of
entries_counted_is_shut_out = values_apart _ _ (λ (r : Told). r.1.0) refl

-- the mark not counted: a slot without a release makes five bytes
pub mark_not_counted_is_shut_out : NoneMeets (mark_not_counted two_alike no_release lent_nines) (scenario_written two_alike no_release lent_nines)
unfolding mark_not_counted scenario_written write_scenario check_list check_whole over_at over_budget scenario_bytes slots_bytes slot_bytes releases_bytes releases_in spelt sheet_in row_in legal legal_at legal_row first_of upto all_of
mark_not_counted_is_shut_out = values_apart _ _ (λ (r : Told). r.1.0) refl

-- the bytes past the file made zero: the sixth is lent as 9
pub rest_cleared_is_shut_out : NoneMeets (rest_cleared two_alike no_release lent_nines) (scenario_written two_alike no_release lent_nines)
unfolding rest_cleared scenario_written write_scenario check_list check_whole over_at over_budget scenario_bytes slots_bytes slot_bytes releases_bytes releases_in spelt sheet_in row_in legal legal_at legal_row filled first_of upto all_of
rest_cleared_is_shut_out = values_apart _ _ (λ (r : Told). get_or r.1.1 5 0) refl
