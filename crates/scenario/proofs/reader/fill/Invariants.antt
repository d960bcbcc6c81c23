-- `fill` meets its promise. The invariant: the slots so far stand there, and zeros for those still to be read. Assumes nothing.
use Rattle.basis.specs.Prelude.{◌-◌, ◌≤◌, length}
use Rattle.scenario.proofs.Names.{sheet_in}
use Rattle.scenario.proofs.Inside.Filling.{Filling}
use Rattle.scenario.proofs.reader.fill.Given as goal

abbrev pub invariant-loop-next : goal.invariant-loop-next
invariant-loop-next l =
    Filling (sheet_in l.rows.sheet.now) l.bytes l.initial.releases l.releases l.next l.base × (l.base ≤ length l.initial.releases)

abbrev pub decreases-loop-next : goal.decreases-loop-next
decreases-loop-next l = length l.bytes - l.next
