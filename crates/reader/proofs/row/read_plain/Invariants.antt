-- `read_plain` meets its promise: what is left of the label decides. Assumes nothing.
use Rattle.basis.specs.Prelude.{◌-◌, ◌≡◌}
use Rattle.reader.proofs.Names.{map_step, plain, nothing}
use Rattle.reader.proofs.row.read_plain.Given as goal

abbrev pub invariant-loop-i : goal.invariant-loop-i
invariant-loop-i l = map_step nothing (plain (l.end - l.at) l.bytes l.at) ≡ map_step nothing (plain (l.end - l.i) l.bytes l.i)
