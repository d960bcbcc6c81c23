-- `label_parts` meets its promise: each part of its own list. Assumes nothing.
use Rattle.basis.specs.Prelude.{◌-◌, ◌≤◌, ◌<◌, ℕ, ◌≡◌}
use Rattle.reader.proofs.Names.{most_rows, upto, label_in, no_parts, part_in}
use Rattle.reader.proofs.labels.label_parts.Given as goal

abbrev pub invariant-loop-i : goal.invariant-loop-i
invariant-loop-i l =
    (l.i ≤ most_rows) × (l.parts ≡ upto l.i (label_in l.bytes) no_parts) × ((k : ℕ) → k < most_rows → part_in l.labels k ≡ label_in l.bytes k)

abbrev pub decreases-loop-i : goal.decreases-loop-i
decreases-loop-i l = most_rows - l.i
