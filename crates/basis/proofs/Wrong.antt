-- Wrong answers of this crate's promises are shut out. Assumes nothing.
use Rattle.basis.specs.Prelude.{ℕ, refl, List, get_or}
use Rattle.basis.specs.Refusals.{accepted, is_accepted}
use Rattle.basis.specs.Readers.{begins}
use Rattle.basis.specs.Lent.{stored_at}
use Rattle.basis.specs.Faults.{NoneMeets}
use Rattle.basis.proofs.Faults.{values_apart, bit}
use Rattle.basis.specs.Wrong.{ever_accepted, ever_refused, three_at_none, by_first_byte, cut_mark, two_byte_mark, first_twice, first_alone, next_cleared, all_or_nothing, at_the_front, three_nines}

-- every call accepted: a refused one is not
pub ever_accepted_is_shut_out : NoneMeets (ever_accepted three_at_none) (is_accepted three_at_none)
unfolding ever_accepted
ever_accepted_is_shut_out = values_apart (ever_accepted three_at_none) (is_accepted three_at_none) bit refl

-- every call refused: an accepted one is not
pub ever_refused_is_shut_out : NoneMeets (ever_refused accepted) (is_accepted accepted)
unfolding ever_refused
ever_refused_is_shut_out = values_apart (ever_refused accepted) (is_accepted accepted) bit refl

-- a mark compared by its first byte: that byte twice would begin with 47 53
pub by_first_byte_is_shut_out : NoneMeets (by_first_byte 0x47 two_byte_mark first_twice) (begins two_byte_mark first_twice)
unfolding by_first_byte begins
by_first_byte_is_shut_out = values_apart (by_first_byte 0x47 two_byte_mark first_twice) (begins two_byte_mark first_twice) bit refl

-- a mark that may be cut off: its first byte alone would begin with 47 53
pub cut_mark_is_shut_out : NoneMeets (cut_mark two_byte_mark first_alone) (begins two_byte_mark first_alone)
unfolding cut_mark begins
cut_mark_is_shut_out = values_apart (cut_mark two_byte_mark first_alone) (begins two_byte_mark first_alone) bit refl

-- a byte of a buffer
byte_at : ℕ → List ℕ → ℕ
byte_at i l = get_or l i 0

-- the byte past the last cleared: after two bytes of three would stand 0
pub next_cleared_is_shut_out : NoneMeets (next_cleared three_nines 0 two_byte_mark) (stored_at three_nines 0 two_byte_mark)
unfolding next_cleared byte_at
next_cleared_is_shut_out = values_apart _ _ (byte_at 2) refl

-- nothing written where not all has room: the third byte of three would stay 9
pub all_or_nothing_is_shut_out : NoneMeets (all_or_nothing three_nines 2 two_byte_mark) (stored_at three_nines 2 two_byte_mark)
unfolding all_or_nothing byte_at
all_or_nothing_is_shut_out = values_apart _ _ (byte_at 2) refl

-- at the front whatever the place: the first byte would be 47
pub at_the_front_is_shut_out : NoneMeets (at_the_front three_nines 1 two_byte_mark) (stored_at three_nines 1 two_byte_mark)
unfolding at_the_front byte_at
at_the_front_is_shut_out = values_apart _ _ (byte_at 0) refl
