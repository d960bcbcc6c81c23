-- The limits of a sheet, each by its name, and all together.
use Rattle.basis.specs.Prelude.{ℕ}

-- A number has one to so many groups.
abbrev pub most_groups : ℕ
most_groups = 3

-- A box has 1 to so many processors.
abbrev pub most_processors : ℕ
most_processors = 64

-- A sheet has 1 to so many rows.
abbrev pub most_rows : ℕ
most_rows = 32

-- A label is 1 to so many bytes long.
abbrev pub longest_label : ℕ
longest_label = 16

-- A separation is 1 to so many slots.
abbrev pub most_separation : ℕ
most_separation = 1000000

-- The limits that a sheet is read by: groups of a number, processors, rows, bytes of a label, slots of a separation.
pub record Limits : Type 0 where
  pub groups : ℕ
  pub processors : ℕ
  pub rows : ℕ
  pub label : ℕ
  pub separation : ℕ

-- Those above.
abbrev pub limits : Limits
limits = record { groups = most_groups; processors = most_processors; rows = most_rows; label = longest_label; separation = most_separation }
