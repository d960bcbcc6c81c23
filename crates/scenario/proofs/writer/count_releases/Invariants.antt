-- `count_releases` meets its promise: the entries so far are counted. Assumes nothing.
use Rattle.basis.specs.Prelude.{◌≤◌, ◌≡◌, take}
use Rattle.scenario.proofs.Inside.Lengths.{released_of}
use Rattle.scenario.proofs.writer.count_releases.Given as goal

abbrev pub invariant-loop-value : goal.invariant-loop-value
invariant-loop-value l = (l.count ≤ l.value-index) × (l.count ≡ released_of (take l.value-index l.slot))
