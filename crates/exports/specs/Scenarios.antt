-- What the calls for a scenario answer: its bytes read into a release list, and a release list written as its bytes.
use Rattle.basis.specs.Prelude.{ℕ, List}
use Rattle.sheet.specs.Lists.{sheet_in}
use Rattle.scenario.specs.Answers.{read_scenario, write_scenario}
use Rattle.exports.specs.Answers.{lent_told}

-- A scenario's bytes read into a list: 10, then the file from left to right, then 15.
unfoldable pub scenario_read : List ℕ → List ℕ → ℕ × List ℕ → (ℕ × ℕ) × (ℕ × List ℕ)
scenario_read sheet s (found, list) = lent_told (read_scenario (sheet_in sheet) s list) found

-- A list written as a scenario's bytes: 10, 11, 12, then 15.
unfoldable pub scenario_written : List ℕ → List ℕ → ℕ × List ℕ → (ℕ × ℕ) × (ℕ × List ℕ)
scenario_written sheet list (found, bytes) = lent_told (write_scenario (sheet_in sheet) list bytes) found
