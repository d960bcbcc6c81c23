-- `fits` meets its promise: the room that is left, and the rows so far, are the whole room. Assumes nothing.
use Rattle.basis.specs.Prelude.{◌+◌, ◌≡◌}
use Rattle.writer.proofs.Names.{sum, sheet_in, head_long, long_at}
use Rattle.writer.proofs.checking.Source.fits.Given as goal

abbrev pub invariant-loop-i : goal.invariant-loop-i
invariant-loop-i l =
    (l.head ≡ head_long (sheet_in l.self.sheet.now).processors l.self.rows)
    × (l.left + (l.head + sum l.i (long_at (sheet_in l.self.sheet.now) l.self.labels.now)) ≡ l.room)
