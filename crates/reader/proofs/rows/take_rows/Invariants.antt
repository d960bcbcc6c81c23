-- `take_rows` meets its promise. The invariant: the rows passed are accepted, and stand in the lists with their labels. Assumes nothing.
use Rattle.basis.specs.Prelude.{◌≡◌}
use Rattle.reader.proofs.Names.{ok, map_step, entries, nothing, rows_in, parts_in}
use Rattle.reader.proofs.rows.take_rows.Given as goal

abbrev pub invariant-loop-i : goal.invariant-loop-i
invariant-loop-i l =
    (map_step nothing (entries l.processors l.i l.bytes l.at) ≡ ok tt l.next) × (l.list ≡ rows_in l.processors l.count l.bytes l.at l.i l.initial.list) × (l.labels ≡ parts_in l.processors l.bytes l.at l.i l.initial.labels)
