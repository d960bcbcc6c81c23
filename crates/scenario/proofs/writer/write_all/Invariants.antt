-- `write_all` meets its promise: with the slots still to come, the whole is stored. Assumes nothing.
use Rattle.basis.specs.Prelude.{◌+◌, ◌≡◌, length, sets}
use Rattle.std.specs.Slice.Iter.{chunks_exact_rest, chunks_exact_size}
use Rattle.scenario.proofs.Names.{sheet_in, file_of}
use Rattle.scenario.proofs.Inside.Files.{rest_bytes}
use Rattle.scenario.proofs.writer.write_all.Given as goal

abbrev pub invariant-loop-slot : goal.invariant-loop-slot
invariant-loop-slot l =
    (chunks_exact_size l.slot-iterator ≡ (sheet_in l.rows.sheet.now).count)
    × (l.next + length (rest_bytes (sheet_in l.rows.sheet.now) (chunks_exact_rest l.slot-iterator)) ≡ length (file_of (sheet_in l.rows.sheet.now) l.releases))
    × (sets l.bytes l.next (rest_bytes (sheet_in l.rows.sheet.now) (chunks_exact_rest l.slot-iterator)) ≡ sets l.fn.bytes 0 (file_of (sheet_in l.rows.sheet.now) l.releases))
