-- `input_buffer` meets its promise: its size is computed from the limits. Assumes nothing.
use Rattle.basis.specs.Prelude.{refl}
use Rattle.dashboard.proofs.Names.{spelt, width, longest_row, longest_sheet, input_size}
use Rattle.dashboard.proofs.room.input_buffer.Goals as goal

pub returns : goal.returns
unfolding input_size longest_sheet longest_row width spelt
returns c = refl
