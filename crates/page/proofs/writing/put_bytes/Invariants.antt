-- `put_bytes` meets its promise: what is said so far is the bytes passed. Assumes nothing.
use Rattle.basis.specs.Prelude.{◌+◌, ◌≡◌, take}
use Rattle.page.specs.Pages.{said}
use Rattle.page.proofs.writing.put_bytes.Given as goal

abbrev pub invariant-loop-i : goal.invariant-loop-i
invariant-loop-i l = (l.text, l.at + l.i) ≡ said (l.initial.text, l.at) (take l.i l.bytes)
