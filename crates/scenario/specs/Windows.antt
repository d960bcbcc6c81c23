-- A window of a file: a part of its bytes at which a slot is read in the place of the whole.
use Rattle.std.specs.Prelude.{◌+◌, ◌≤◌, ◌≡◌, ◌⊎◌}
use Rattle.basis.specs.Prelude.{ℕ, List, [], length}
use Rattle.basis.specs.Refusals.{Outcome, accepted, refused}
use Rattle.basis.specs.Readers.{Step, ok, refuse}
use Rattle.scenario.specs.Answers.{FoundSlot, found_slot}

-- The window reaches to the end of the bytes, or so many bytes past a place in it.
abbrev pub Reaches : List ℕ → List ℕ → ℕ → ℕ → Type 0
Reaches w rest at long = (rest ≡ []) ⊎ (at + long ≤ length w)

-- The step with its place so much further on.
unfoldable pub moved : {A : Type 0} → ℕ → Step A → Step A
moved d (ok a n) = ok a (d + n)
moved d (refuse k p) = refuse k (d + p)

-- The answer with its place so much further on: the place after an accepted slot, or that of the refusal.
unfoldable pub moved_by : ℕ → Outcome → ℕ → List ℕ → FoundSlot
moved_by d accepted next l = found_slot accepted (d + next) l
moved_by d (refused number place) next l = found_slot (refused number (d + place)) next l

abbrev pub moved_answer : ℕ → FoundSlot → FoundSlot
moved_answer d a = moved_by d a.outcome a.next a.entries
