-- `read_releases` meets its promise. The invariant: what is still to be read, into the entries so far, is the whole. Assumes nothing.
use Rattle.basis.specs.Prelude.{◌-◌, ◌≡◌}
use Rattle.scenario.proofs.Names.{sheet_in, releases}
use Rattle.scenario.proofs.slot.read_releases.Given as goal

abbrev pub invariant-loop-release : goal.invariant-loop-release
invariant-loop-release l =
    releases (sheet_in l.rows.sheet.now) l.count 0 l.initial.entries l.bytes l.at ≡ releases (sheet_in l.rows.sheet.now) (l.count - l._release) l.least l.entries l.bytes l.next
