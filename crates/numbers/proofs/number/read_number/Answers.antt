-- `read_number` meets its promise: the loop has a value of the groups so far, to which the groups that are left are added. Assumes nothing.
use Rattle.basis.specs.Prelude.{ℕ, List, Fits, arith, ◌-◌, ◌+◌, ◌≡◌, ◌<◌, get_or}
use Rattle.std.specs.Int.{w8}
use Rattle.numbers.proofs.Names.{most_groups}
use Rattle.numbers.proofs.Inside.Groups.{scaled_none, number_ends, number_over, number_low, number_last, number_more, room_more, digit_room, digit_fits}
use Rattle.numbers.proofs.number.read_number.Goals as goal

-- the seven low bits of a byte
low_bits : (s : List ℕ) (i : ℕ) → Fits w8 (get_or s i 0) → get_or s i 0 - 128 < 128
low_bits s i h = omega (arith, h)

pub loop-group-init : goal.loop-group-init
loop-group-init c = (scaled_none _, omega arith, omega arith)

pub returns-then-bytes-i : goal.returns-then-bytes-i
returns-then-bytes-i c = number_ends _ _ _ _ _ _ _ _ c.loop-group.invariant.0 (omega arith) c.if-bytes-i.true

pub returns-then-b-least : goal.returns-then-b-least
returns-then-b-least c = number_low _ _ _ _ _ _ _ _ c.loop-group.invariant.0 (omega arith) c.if-bytes-i.false c.if-b-lt128.true c.if-b-least.true

pub overflow_mul-result : goal.overflow_mul-result
overflow_mul-result c = omega (arith, digit_fits _ _ _ _ c.loop-group.invariant.1 c.if-b-lt128.true (omega arith) c.loop-group.invariant.2)

pub overflow_add-result : goal.overflow_add-result
overflow_add-result c = omega (arith, digit_fits _ _ _ _ c.loop-group.invariant.1 c.if-b-lt128.true (omega arith) c.loop-group.invariant.2)

pub returns-then-b-lt128 : goal.returns-then-b-lt128
returns-then-b-lt128 c = number_last _ _ _ _ _ _ _ _ c.loop-group.invariant.0 (omega arith) c.if-bytes-i.false c.if-b-lt128.true c.if-b-least.false

pub overflow_mul-value : goal.overflow_mul-value
overflow_mul-value c = omega (arith, digit_fits _ _ _ _ c.loop-group.invariant.1 (low_bits c.args.bytes.now c.loop-group.i (c.type_inv.bytes c.loop-group.i)) (omega arith) c.loop-group.invariant.2)

pub overflow_add-value : goal.overflow_add-value
overflow_add-value c = omega (arith, digit_fits _ _ _ _ c.loop-group.invariant.1 (low_bits c.args.bytes.now c.loop-group.i (c.type_inv.bytes c.loop-group.i)) (omega arith) c.loop-group.invariant.2)

pub overflow_mul-weight : goal.overflow_mul-weight
overflow_mul-weight c = omega (arith, digit_fits _ _ _ _ c.loop-group.invariant.1 (low_bits c.args.bytes.now c.loop-group.i (c.type_inv.bytes c.loop-group.i)) (omega arith) c.loop-group.invariant.2)

pub loop-group-preserved : goal.loop-group-preserved
loop-group-preserved c =
    let one : most_groups - c.loop-group._group ≡ most_groups - (c.loop-group._group + 1) + 1 = omega arith in (
      number_more _ _ _ _ _ _ _ _ c.loop-group.invariant.0 (omega arith) c.if-bytes-i.false _ one c.if-b-lt128.false,
      digit_room _ _ _ c.loop-group.invariant.1 (low_bits c.args.bytes.now c.loop-group.i (c.type_inv.bytes c.loop-group.i)),
      omega (arith, room_more c.loop-group.weight _ _ one, c.loop-group.invariant.2),
    )

pub returns : goal.returns
returns c = number_over _ _ _ _ _ _ _ _ c.loop-group.invariant.0 (omega arith)
