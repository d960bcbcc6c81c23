-- The worked verdicts and the whole reference hold of the definitions. Assumes nothing.
use Rattle.basis.specs.Prelude.{◌≡◌, refl, [], ◌∷◌, ◌++◌}
use Rattle.dashboard.proofs.Names.{all_of, sum, begins, groups, up_to_by, plain, label_by, entry_by, entries_by, body_by, head_by, sheet_by, label_head, label_in, q, X, x, W, duration_of, amount_of, amounts, room, passes, least, bound_by, judge, results_to, result_of, holds, fixed_sheet, digits, decimal, result_words, line_start, line, refused_by, no_verdict, own_label, numbered, lines, board, verdict_text, section, sections, reference_text}
use Rattle.dashboard.specs.Cases.{roll_and_trim, roll_and_trim_text, seven_at23, reference}

-- sheet C with labels roll and trim
pub roll_and_trim_lem : verdict_text (roll_and_trim ++ (0x03 ∷ [])) ≡ roll_and_trim_text
unfolding all_of sum begins groups up_to_by plain label_by entry_by entries_by body_by head_by sheet_by label_head label_in q X x W duration_of amount_of amounts room passes least bound_by judge results_to result_of holds digits decimal result_words line_start line own_label lines board verdict_text
roll_and_trim_lem = refl

-- and with its last byte 00
pub seven_at_23 : verdict_text (roll_and_trim ++ (0x00 ∷ [])) ≡ seven_at23
unfolding begins groups up_to_by plain label_by entry_by entries_by body_by head_by sheet_by digits decimal refused_by no_verdict verdict_text
seven_at_23 = refl

-- sheets A to E
pub reference_is : reference_text ≡ reference
unfolding all_of sum q X x W duration_of amount_of amounts room passes least bound_by judge results_to result_of holds fixed_sheet digits decimal result_words line_start line numbered lines board section sections reference_text
reference_is = refl
