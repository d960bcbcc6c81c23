-- `count_slots` meets its promise. The invariant: what is still to be counted, and the count, is the whole. Assumes nothing.
use Rattle.basis.specs.Prelude.{◌-◌, length}
use Rattle.scenario.proofs.Names.{sheet_in}
use Rattle.scenario.proofs.Inside.Counting.{Counting}
use Rattle.scenario.proofs.reader.count_slots.Given as goal

abbrev pub invariant-loop-next : goal.invariant-loop-next
invariant-loop-next l = Counting (sheet_in l.rows.sheet.now) l.bytes l.next l.count

abbrev pub decreases-loop-next : goal.decreases-loop-next
decreases-loop-next l = length l.bytes - l.next
