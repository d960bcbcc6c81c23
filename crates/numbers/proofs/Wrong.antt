-- No answer by a wrong rule of a number meets the promise of `read_number`, `read_up_to`, `read_in_range`, `number_length` or `write_number`. Assumes nothing.
use Rattle.std.specs.Prelude.{Result}
use Rattle.basis.specs.Refusals.{told}
use Rattle.basis.specs.declared.refusal.Refusal.{Refusal}
use Rattle.basis.specs.declared.refusal.Refusal.TheVariants.{Zero, Over}
use Rattle.basis.specs.Prelude.{◌≡◌, ℕ, refl, List, get_or, sets}
use Rattle.numbers.proofs.Names.{Step, ok, refuse, step, step_as_told, groups, number, up_to_by, up_to, ranged, spelt, spell, width, UpTo}
use Rattle.numbers.proofs.Encoding.{up_to_step}
use Rattle.basis.specs.Faults.{NoAnswer, NoneMeets}
use Rattle.basis.proofs.Faults.{told_apart, values_apart}
use Rattle.numbers.specs.Wrong.{high_groups, highest_first, loose_groups, any_form, group_more, three_as, long_is_cut, place_after, blank_is_zero, most_is_over, zero_is_over, always_one, two_for_one, spelt_before, highest_written, spelt_bare, top_bits_off, next_cleared, two_groups, zero_last, four_groups, blank, nines, five}

-- the value of a step, the number that it is refused by, and its place
value : Step ℕ → ℕ
value (ok v n) = v
value (refuse k p) = 0

refusal : Step ℕ → ℕ
refusal (ok v n) = 0
refusal (refuse k p) = k

place : Step ℕ → ℕ
place (ok v n) = n
place (refuse k p) = p

-- the highest group first: 80 01 would be 1
pub highest_first_is_shut_out : NoAnswer step (highest_first two_groups 0) (number two_groups 0)
unfolding groups high_groups highest_first value
highest_first_is_shut_out = told_apart step _ _ value refl

-- not the shortest form: 80 00 would be 0
pub any_form_is_shut_out : NoAnswer step (any_form zero_last 0) (number zero_last 0)
unfolding groups loose_groups any_form refusal
any_form_is_shut_out = told_apart step _ _ refusal refl

-- a group more: 80 80 80 01 would be a number
pub group_more_is_shut_out : NoAnswer step (group_more four_groups 0) (number four_groups 0)
unfolding groups group_more refusal
group_more_is_shut_out = told_apart step _ _ refusal refl

-- too long said to be cut off: 80 80 80 01 would be 2
pub long_is_cut_is_shut_out : NoAnswer step (long_is_cut four_groups 0) (number four_groups 0)
unfolding groups three_as long_is_cut refusal
long_is_cut_is_shut_out = told_apart step _ _ refusal refl

-- refused at the place after its first byte: 80 00 would be 3 at 1
pub place_after_is_shut_out : NoAnswer step (place_after zero_last 0) (number zero_last 0)
unfolding groups three_as place_after place
place_after_is_shut_out = told_apart step _ _ place refl

-- a blank read as zero: 00 would be a budget of 0, and the row would weigh nothing
pub blank_is_zero_is_shut_out : NoAnswer step (blank_is_zero 5 7 8 blank 0) (up_to 5 7 8 blank 0)
unfolding groups up_to_by blank_is_zero refusal
blank_is_zero_is_shut_out = told_apart step _ _ refusal refl

-- the largest value refused: 05 would be over 5
pub most_is_over_is_shut_out : NoAnswer step (most_is_over 5 7 8 five 0) (up_to 5 7 8 five 0)
unfolding groups up_to_by most_is_over refusal
most_is_over_is_shut_out = told_apart step _ _ refusal refl

-- zero refused as what is over: 00 would be 8
pub zero_is_over_is_shut_out : NoAnswer step (zero_is_over 5 7 8 blank 0) (up_to 5 7 8 blank 0)
unfolding groups up_to_by zero_is_over refusal
zero_is_over_is_shut_out = told_apart step _ _ refusal refl

-- so of errors that are numbers and places
pub blank_as_told_is_shut_out : NoAnswer step_as_told (blank_is_zero 5 7 8 blank 0) (up_to 5 7 8 blank 0)
unfolding groups up_to_by blank_is_zero refusal
blank_as_told_is_shut_out = told_apart step_as_told _ _ refusal refl

pub most_as_told_is_shut_out : NoAnswer step_as_told (most_is_over 5 7 8 five 0) (up_to 5 7 8 five 0)
unfolding groups up_to_by most_is_over refusal
most_as_told_is_shut_out = told_apart step_as_told _ _ refusal refl

pub zero_as_told_is_shut_out : NoAnswer step_as_told (zero_is_over 5 7 8 blank 0) (up_to 5 7 8 blank 0)
unfolding groups up_to_by zero_is_over refusal
zero_as_told_is_shut_out = told_apart step_as_told _ _ refusal refl

-- of refusals in their range
pub blank_in_range_is_shut_out : NoAnswer step (blank_is_zero 5 7 8 blank 0) (ranged 5 (told (Zero 0)) (told (Over 0)) blank 0)
unfolding up_to_by
blank_in_range_is_shut_out = blank_is_zero_is_shut_out

pub most_in_range_is_shut_out : NoAnswer step (most_is_over 5 7 8 five 0) (ranged 5 (told (Zero 0)) (told (Over 0)) five 0)
unfolding up_to_by
most_in_range_is_shut_out = most_is_over_is_shut_out

pub zero_in_range_is_shut_out : NoAnswer step (zero_is_over 5 7 8 blank 0) (ranged 5 (told (Zero 0)) (told (Over 0)) blank 0)
unfolding up_to_by
zero_in_range_is_shut_out = zero_is_over_is_shut_out

-- and of the errors themselves: 0 as a budget, 5 where 5 is the most, and 0 again
pub blank_is_told_is_shut_out : (r : Result (ℕ × ℕ) Refusal) → step r ≡ blank_is_zero 5 7 8 blank 0 → UpTo (λ (x : Refusal) (e : Refusal). e ≡ x) 5 (Zero 0) (Over 0) blank 0 r → ⊥
blank_is_told_is_shut_out r e u = blank_is_zero_is_shut_out r e (up_to_step 5 7 8 blank 0 (Zero 0) (Over 0) r refl refl u)

pub most_is_told_is_shut_out : (r : Result (ℕ × ℕ) Refusal) → step r ≡ most_is_over 5 7 8 five 0 → UpTo (λ (x : Refusal) (e : Refusal). e ≡ x) 5 (Zero 0) (Over 0) five 0 r → ⊥
most_is_told_is_shut_out r e u = most_is_over_is_shut_out r e (up_to_step 5 7 8 five 0 (Zero 0) (Over 0) r refl refl u)

pub zero_is_told_is_shut_out : (r : Result (ℕ × ℕ) Refusal) → step r ≡ zero_is_over 5 7 8 blank 0 → UpTo (λ (x : Refusal) (e : Refusal). e ≡ x) 5 (Zero 0) (Over 0) blank 0 r → ⊥
zero_is_told_is_shut_out r e u = zero_is_over_is_shut_out r e (up_to_step 5 7 8 blank 0 (Zero 0) (Over 0) r refl refl u)

-- always one byte: 128 would take 1
pub always_one_is_shut_out : NoneMeets (always_one 128) (width 128)
unfolding always_one width spelt
always_one_is_shut_out = values_apart _ _ (λ (n : ℕ). n) refl

-- a value of one group said to take two: 5 would take 2
pub two_for_one_is_shut_out : NoneMeets (two_for_one 5) (width 5)
unfolding two_for_one width spelt
two_for_one_is_shut_out = values_apart _ _ (λ (n : ℕ). n) refl

-- a byte of a buffer
byte_at : ℕ → List ℕ → ℕ
byte_at i l = get_or l i 0

-- the highest group written first: 128 would be 81 00
pub highest_written_is_shut_out : NoneMeets (highest_written nines 0 128) (sets nines 0 (spell 128))
unfolding spelt_before highest_written spelt byte_at
highest_written_is_shut_out = values_apart _ _ (byte_at 0) refl

-- no top bit written: 128 would be 00 01
pub top_bits_off_is_shut_out : NoneMeets (top_bits_off nines 0 128) (sets nines 0 (spell 128))
unfolding spelt_bare top_bits_off spelt byte_at
top_bits_off_is_shut_out = values_apart _ _ (byte_at 0) refl

-- the byte past the number cleared: after 05 would stand 00
pub next_cleared_is_shut_out : NoneMeets (next_cleared nines 0 5) (sets nines 0 (spell 5))
unfolding next_cleared width spelt byte_at
next_cleared_is_shut_out = values_apart _ _ (byte_at 1) refl
