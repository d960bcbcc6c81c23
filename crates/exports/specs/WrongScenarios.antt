-- Wrong answers of the calls for a scenario, each right but for one thing, and the lists and files that tell them.
use Rattle.std.specs.Prelude.{◌-◌, ◌*◌, ◌∷◌, ◌++◌}
use Rattle.basis.specs.Prelude.{ℕ, List, [], length}
use Rattle.sheet.specs.Lists.{sheet_in, filled}
use Rattle.scenario.specs.Form.{mark_bytes}
use Rattle.exports.specs.Scenarios.{scenario_read, scenario_written}

-- What the calls tell.
abbrev pub Told : Type 0
Told = (ℕ × ℕ) × (ℕ × List ℕ)

-- Beside a refusal the number of slots is made 0.
unfoldable pub slots_made_zero : List ℕ → List ℕ → ℕ × List ℕ → Told
slots_made_zero sheet s (found, list) = scenario_read sheet s (0, list)

-- Every entry is counted for a slot.
unfoldable pub entries_counted : List ℕ → List ℕ → ℕ × List ℕ → Told
entries_counted sheet s lent =
    let r = scenario_read sheet s lent in
    (r.0, (r.1.0 * (sheet_in sheet).count, r.1.1))

-- The mark is not counted among the bytes.
unfoldable pub mark_not_counted : List ℕ → List ℕ → ℕ × List ℕ → Told
mark_not_counted sheet list lent =
    let r = scenario_written sheet list lent in
    (r.0, (r.1.0 - length mark_bytes, r.1.1))

-- The bytes past the file are made zero.
unfoldable pub rest_cleared : List ℕ → List ℕ → ℕ × List ℕ → Told
rest_cleared sheet list (found, out) = scenario_written sheet list (found, filled (λ i. 0) out)

-- Two rows on one processor, each of which may run two slots in six.
abbrev pub two_alike : List ℕ
two_alike = 1 ∷ 2 ∷ 1 ∷ 6 ∷ 6 ∷ 2 ∷ 1 ∷ 6 ∷ 6 ∷ 2 ∷ []

-- A file of one slot, in which row 0 is released for three slots, one more than it may run.
abbrev pub three_slots : List ℕ
three_slots = mark_bytes ++ (1 ∷ 0 ∷ 3 ∷ [])

-- A file of one slot without a release.
abbrev pub one_empty : List ℕ
one_empty = mark_bytes ++ (0 ∷ [])

-- A release list of one slot without a release, and what is lent.
abbrev pub no_release : List ℕ
no_release = 0 ∷ 0 ∷ []

abbrev pub lent_nines : ℕ × List ℕ
lent_nines = (9, 9 ∷ 9 ∷ 9 ∷ 9 ∷ 9 ∷ 9 ∷ [])
