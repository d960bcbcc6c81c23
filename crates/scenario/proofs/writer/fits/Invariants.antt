-- `fits` meets its promise: what is left has the room that the slots still to come leave of the whole. Assumes nothing.
use Rattle.basis.specs.Prelude.{◌+◌, ◌≡◌, length}
use Rattle.std.specs.Slice.Iter.{chunks_exact_rest, chunks_exact_size}
use Rattle.scenario.proofs.Names.{sheet_in, file_of}
use Rattle.scenario.proofs.Inside.Files.{rest_bytes}
use Rattle.scenario.proofs.writer.fits.Given as goal

abbrev pub invariant-loop-slot : goal.invariant-loop-slot
invariant-loop-slot l =
    (chunks_exact_size l.slot-iterator ≡ (sheet_in l.rows.sheet.now).count)
    × (l.left + length (file_of (sheet_in l.rows.sheet.now) l.releases) ≡ l.room + length (rest_bytes (sheet_in l.rows.sheet.now) (chunks_exact_rest l.slot-iterator)))
