-- How a scenario is written.
use Rattle.std.specs.Prelude.{◌/◌, ◌∷◌, ◌++◌}
use Rattle.basis.specs.Prelude.{ℕ, zero, suc, List, [], length, take, drop, eqb}
use Rattle.basis.specs.Words.{pick}
use Rattle.numbers.specs.Numbers.{spell}
use Rattle.sheet.specs.declared.row.Sheet.{Sheet}
use Rattle.scenario.specs.Form.{mark_bytes}

-- How many entries are a release.
unfoldable pub releases_in : List ℕ → ℕ
releases_in [] = 0
releases_in (v ∷ l) = pick (eqb v 0) (releases_in l) (suc (releases_in l))

-- The releases among the entries from row i on: each row, and its slot count.
unfoldable pub releases_bytes : ℕ → List ℕ → List ℕ
releases_bytes i [] = []
releases_bytes i (v ∷ l) = pick (eqb v 0) (releases_bytes (suc i) l) (spell i ++ (spell v ++ releases_bytes (suc i) l))

-- A slot.
unfoldable pub slot_bytes : List ℕ → List ℕ
slot_bytes l = spell (releases_in l) ++ releases_bytes 0 l

-- k slots of n entries each.
unfoldable pub slots_bytes : ℕ → ℕ → List ℕ → List ℕ
slots_bytes n zero l = []
slots_bytes n (suc k) l = slot_bytes (take n l) ++ slots_bytes n k (drop n l)

-- A scenario of k slots.
unfoldable pub scenario_bytes : ℕ → ℕ → List ℕ → List ℕ
scenario_bytes n k l = mark_bytes ++ slots_bytes n k l

-- The file of a release list.
abbrev pub file_of : Sheet → List ℕ → List ℕ
file_of h l = scenario_bytes h.count (length l / h.count) l
