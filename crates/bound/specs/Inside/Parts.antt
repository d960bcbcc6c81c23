-- Durations and amounts in 256ths, by which the search takes shares of them. No promise of a public function speaks of them.
-- Only `on_fine` leads from one kind to the other, and no sum adds one kind to another, nor 256ths to what is whole.
use Rattle.std.specs.Prelude.{◌+◌, ◌*◌, ◌/◌}
use Rattle.basis.specs.Prelude.{ℕ, min, Bool, ltb}
use Rattle.bound.specs.declared.quantity.Quantity.{Quantity}
use Rattle.bound.specs.Quantities.{Duration, Amount}

-- 256ths of slots, and of slots times processors.
abbrev pub Fine : Type 0
Fine = Quantity 0 256

abbrev pub FineAmount : Type 0
FineAmount = Quantity 1 256

-- So many 256ths of a slot.
abbrev pub parts : ℕ → Fine
parts n = record { 0 = n }

-- A duration in 256ths.
abbrev pub fine : Duration → Fine
fine a = parts (256 * a.0)

-- So many slots of every period of a duration, in 256ths, rounded down.
abbrev pub part_of : Duration → ℕ → Duration → Fine
part_of a c period = parts (256 * (a.0 * c) / period.0)

-- The shorter of two durations in 256ths.
abbrev pub lesser_fine : Fine → Fine → Fine
lesser_fine a b = parts (min a.0 b.0)

-- So many 256ths of an amount.
abbrev pub pieces : ℕ → FineAmount
pieces n = record { 0 = n }

-- The amount, in 256ths, of a duration in 256ths on so many processors.
abbrev pub on_fine : Fine → ℕ → FineAmount
on_fine a p = pieces (a.0 * p)

-- An amount in 256ths, rounded up to a whole one, is no less than a whole one.
abbrev pub reaches : FineAmount → Amount → Bool
reaches a b = ltb (256 * b.0) (a.0 + 256)
