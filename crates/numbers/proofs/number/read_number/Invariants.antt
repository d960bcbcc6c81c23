-- `read_number` meets its promise: the loop has a value of the groups so far, to which the groups that are left are added. Assumes nothing.
use Rattle.basis.specs.Prelude.{◌*◌, ◌-◌, ◌^◌, ◌≤◌, ◌<◌, ◌≡◌}
use Rattle.numbers.proofs.Names.{most_groups, groups, number}
use Rattle.numbers.proofs.Inside.Groups.{scaled}
use Rattle.numbers.proofs.number.read_number.Given as goal

abbrev pub invariant-loop-group : goal.invariant-loop-group
invariant-loop-group l =
    (number l.bytes l.at ≡ scaled l.value l.weight (groups (most_groups - l._group) l.at l.least l.bytes l.i)) × (l.value < l.weight) × (l.weight * 128 ^ (most_groups - l._group) ≤ 128 ^ most_groups)
