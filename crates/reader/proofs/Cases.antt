-- Worked sheets hold of the definitions: two rows with one label have two parts, and a label is judged length, enough bytes, each byte. Assumes nothing.
use Rattle.basis.specs.Prelude.{◌≡◌, refl, [], ◌∷◌, take, drop, replicate}
use Rattle.reader.proofs.Names.{refused, upto, begins, groups, up_to_by, plain, label_by, entry_by, entries_by, body_by, head_by, sheet_by, label_head, no_sheet, reading, nowhere, label_in, labels_in, two_pumps, first_pump, second_pump}

-- two equal labels, each at its own place
pub two_pumps_lem : (label_in two_pumps 0 ≡ first_pump) × (label_in two_pumps 1 ≡ second_pump) × (take 4 (drop 7 two_pumps) ≡ take 4 (drop 16 two_pumps))
unfolding label_in label_head sheet_by head_by body_by entries_by entry_by label_by plain up_to_by groups begins
two_pumps_lem = (refl, refl, refl)

-- and both at once, with the empty part for each of the thirty rows that it does not have
pub both_pumps : labels_in two_pumps ≡ first_pump ∷ second_pump ∷ replicate 30 nowhere
unfolding labels_in upto label_in label_head sheet_by head_by body_by entries_by entry_by label_by plain up_to_by groups begins
both_pumps = refl

-- 47 53 48 01 01 01 03 20 ends before its label does: 2 at 8, and not 6 at 7
pub short_label_lem : reading (0x47 ∷ 0x53 ∷ 0x48 ∷ 0x01 ∷ 0x01 ∷ 0x01 ∷ 0x03 ∷ 0x20 ∷ []) ≡ (refused 2 8, no_sheet)
unfolding sheet_by head_by body_by entries_by entry_by label_by up_to_by groups begins
short_label_lem = refl

-- sheet C with its last byte 00: 7 at 23
pub blank_budget_lem : reading (
    0x47 ∷ 0x53 ∷ 0x48 ∷ 0x01 ∷ 0x02 ∷ 0x02
    ∷ 0x04 ∷ 0x72 ∷ 0x6F ∷ 0x6C ∷ 0x6C ∷ 0x02 ∷ 0x02 ∷ 0x02 ∷ 0x01
    ∷ 0x04 ∷ 0x74 ∷ 0x72 ∷ 0x69 ∷ 0x6D ∷ 0x01 ∷ 0x04 ∷ 0x04 ∷ 0x00 ∷ []
    ) ≡ (refused 7 23, no_sheet)
unfolding sheet_by head_by body_by entries_by entry_by label_by plain up_to_by groups begins
blank_budget_lem = refl
