-- What a window over a file promises.
use Rattle.std.specs.Prelude.{◌+◌, ◌≤◌, ◌≡◌}
use Rattle.basis.specs.Prelude.{ℕ, Bool, false}
use Rattle.scenario.specs.Longest.{slot_reach}

-- All that the reading of a slot looks at stands in the window, or the file ends with it: so the slot is read as in the whole file.
pub record Ahead (ended : Bool) (start end : ℕ) : Type 0 where
  pub enough : ended ≡ false → start + slot_reach ≤ end
