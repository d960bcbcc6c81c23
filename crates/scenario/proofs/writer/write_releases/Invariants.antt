-- `write_releases` meets its promise: the entries so far are stored. Assumes nothing.
use Rattle.basis.specs.Prelude.{◌+◌, ◌≡◌, length, take, sets}
use Rattle.scenario.proofs.Names.{releases_bytes}
use Rattle.scenario.proofs.writer.write_releases.Given as goal

abbrev pub invariant-loop-row : goal.invariant-loop-row
invariant-loop-row l =
    (l.next ≡ l.at + length (releases_bytes 0 (take l.row l.slot))) × (l.bytes ≡ sets l.initial.bytes l.at (releases_bytes 0 (take l.row l.slot)))
