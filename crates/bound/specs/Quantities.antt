-- The two kinds of quantity: a duration in slots, and an amount, which is slots times processors.
-- Only `on` leads from one kind to the other, and no sum adds one kind to another.
use Rattle.std.specs.Prelude.{◌+◌, ◌-◌, ◌*◌, ◌/◌, ◌%◌}
use Rattle.basis.specs.Prelude.{ℕ, min, Bool, ltb}
use Rattle.basis.specs.Words.{sum}
use Rattle.bound.specs.declared.quantity.Quantity.{Quantity}

-- The longest separation, and the most rows, for which every sum and product of these is proved to fit: as far as the limits of a sheet may ever be raised.
abbrev pub widest_separation : ℕ
widest_separation = 100000000

abbrev pub widest_rows : ℕ
widest_rows = 160

-- Slots, and slots times processors: quantities that are no amount and that are one, of which each has one part.
abbrev pub Duration : Type 0
Duration = Quantity 0 1

abbrev pub Amount : Type 0
Amount = Quantity 1 1

-- So many slots.
abbrev pub slots : ℕ → Duration
slots n = record { 0 = n }

-- One duration and another.
abbrev pub plus : Duration → Duration → Duration
plus a b = slots (a.0 + b.0)

-- What one duration is longer by than another; none where it is not longer.
abbrev pub minus : Duration → Duration → Duration
minus a b = slots (a.0 - b.0)

-- The shorter of two durations.
abbrev pub lesser : Duration → Duration → Duration
lesser a b = slots (min a.0 b.0)

-- A duration so many times.
abbrev pub times : ℕ → Duration → Duration
times n a = slots (n * a.0)

-- How many times one duration goes into another, rounded down.
abbrev pub into : Duration → Duration → ℕ
into a period = a.0 / period.0

-- What is left of a duration after whole periods.
abbrev pub left : Duration → Duration → Duration
left a period = slots (a.0 % period.0)

-- The amount of a duration on so many processors.
abbrev pub on : Duration → ℕ → Amount
on a p = record { 0 = a.0 * p }

-- No amount.
abbrev pub no_amount : Amount
no_amount = record { 0 = 0 }

-- One amount and another.
abbrev pub plus_amount : Amount → Amount → Amount
plus_amount a b = record { 0 = a.0 + b.0 }

-- The amounts f 0, .., f (n - 1) together.
abbrev pub together : ℕ → (ℕ → Amount) → Amount
together n f = record { 0 = sum n (λ i. (f i).0) }

-- One amount is less than another.
abbrev pub less : Amount → Amount → Bool
less a b = ltb a.0 b.0
