-- The names from elsewhere that the proofs here share, passed on under one name.
pub use Rattle.basis.proofs.Inside.Steps.{after_ok, never_ok, not_stopped, ok_same, passed}
pub use Rattle.basis.proofs.Inside.Words.{lt_or_le}
pub use Rattle.basis.specs.Limits.{most_groups}
pub use Rattle.basis.specs.Readers.{Bytes, Step, step, ◌>>=◌, after, byte, give, ok, refuse}
pub use Rattle.basis.specs.Words.{Each}
pub use Rattle.numbers.specs.Numbers.{number, spell, up_to, step_by, step_as_told, ranged}
pub use Rattle.numbers.specs.Inside.Ranges.{InRange, UpTo}
unfoldable pub use Rattle.numbers.specs.Numbers.{groups, spelt, up_to_by, width}
