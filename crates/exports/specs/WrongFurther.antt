-- Wrong rules of the further calls, each the rule but for one thing, and the inputs that tell them.
use Rattle.std.specs.Prelude.{◌/◌, ◌∷◌}
use Rattle.basis.specs.Prelude.{ℕ, List, [], length, replicate}
use Rattle.sheet.specs.Lists.{filled, sheet_in, sheet_cell}
use Rattle.tables.specs.Tables.{fixed_sheet}
use Rattle.numbers.specs.Numbers.{up_to}
use Rattle.exports.specs.Further.{step_told, fixed_in}

-- What a call about a number tells.
abbrev pub NumberTold : Type 0
NumberTold = (ℕ × ℕ) × (ℕ × ℕ)

-- The place after a number is told for its value, and the value for the place.
unfoldable pub swapped : NumberTold → NumberTold
swapped (refusal, (value, after)) = (refusal, (after, value))

-- No refusal is told.
unfoldable pub not_told : NumberTold → NumberTold
not_told (refusal, given) = ((0, 0), given)

-- Zeros are written beside a refusal.
unfoldable pub zeros_written : NumberTold → NumberTold
zeros_written (refusal, given) = (refusal, (0, 0))

-- Zero is refused by 8, and what is over by 7.
unfoldable pub eight_and_seven : List ℕ → ℕ → ℕ → ℕ × ℕ → NumberTold
eight_and_seven s at most found = step_told (up_to most 8 7 s at) found

-- Sheet A for every number.
unfoldable pub sheet_a_always : ℕ → List ℕ → (ℕ × ℕ) × List ℕ
sheet_a_always k list = fixed_in 0 list

-- A worked sheet is written as far as there is room.
unfoldable pub list_cut_off : ℕ → List ℕ → (ℕ × ℕ) × List ℕ
list_cut_off k list = ((0, 0), filled (sheet_cell (fixed_sheet k)) list)

-- What the box's own loop tells.
abbrev pub BoxTold : Type 0
BoxTold = (ℕ × ℕ) × (ℕ × (List ℕ × List ℕ))

-- Every slot that was asked for is counted as done.
unfoldable pub all_counted : List ℕ → List ℕ → BoxTold → BoxTold
all_counted sheet releases (refusal, (done, lent)) = (refusal, (length releases / (sheet_in sheet).count, lent))

-- The state's list is left as it was.
unfoldable pub state_kept : List ℕ → BoxTold → BoxTold
state_kept list (refusal, (done, (state, codes))) = (refusal, (done, (list, codes)))

-- 80 01, which is 128, and 80 00, which is refused.
abbrev pub two_groups : List ℕ
two_groups = 0x80 ∷ 0x01 ∷ []

abbrev pub zero_last : List ℕ
zero_last = 0x80 ∷ 0x00 ∷ []

-- What is lent for two numbers holds 7 and 7.
abbrev pub sevens : ℕ × ℕ
sevens = (7, 7)

-- A list of two places.
abbrev pub two_places : List ℕ
two_places = 9 ∷ 9 ∷ []

-- The list of sheet C.
abbrev pub list_c : List ℕ
list_c = 2 ∷ 2 ∷ 2 ∷ 2 ∷ 2 ∷ 1 ∷ 1 ∷ 4 ∷ 4 ∷ 3 ∷ []

-- Two slots of it, of which the second releases the first row too soon.
abbrev pub too_soon : List ℕ
too_soon = 1 ∷ 3 ∷ 1 ∷ 0 ∷ []

-- A list of four places, and as many for codes.
abbrev pub four_places : List ℕ
four_places = replicate 4 9
