-- `write_rows` meets its promise: the rows so far are stored. Assumes nothing.
use Rattle.basis.specs.Prelude.{◌+◌, ◌*◌, ◌≤◌, ◌≡◌, length, sets}
use Rattle.writer.proofs.Names.{most_entry, sheet_in, entry_of, first_rows, entries_bytes}
use Rattle.writer.proofs.checking.Source.write_rows.Given as goal

abbrev pub invariant-loop-i : goal.invariant-loop-i
invariant-loop-i l =
    (l.next ≤ l.at + l.i * most_entry)
    × (l.next ≡ l.at + length (entries_bytes (first_rows l.i (entry_of (sheet_in l.self.sheet.now) l.self.bytes.now l.self.labels.now))))
    × (l.out ≡ sets l.initial.out l.at (entries_bytes (first_rows l.i (entry_of (sheet_in l.self.sheet.now) l.self.bytes.now l.self.labels.now))))
