-- `releases_length` meets its promise: the entries so far are measured. Assumes nothing.
use Rattle.basis.specs.Prelude.{◌*◌, ◌≤◌, ◌≡◌, length, take}
use Rattle.scenario.proofs.Names.{releases_bytes}
use Rattle.scenario.proofs.writer.releases_length.Given as goal

abbrev pub invariant-loop-row : goal.invariant-loop-row
invariant-loop-row l = (l.long ≤ l.row * 6) × (l.long ≡ length (releases_bytes 0 (take l.row l.slot)))
