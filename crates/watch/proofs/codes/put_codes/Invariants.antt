-- `put_codes` meets its promise. The invariant: what is said so far is the codes passed. Assumes nothing.
use Rattle.basis.specs.Prelude.{◌≡◌, length, take}
use Rattle.watch.proofs.Names.{codes_text, said}
use Rattle.watch.proofs.codes.put_codes.Given as goal

abbrev pub invariant-loop-code : goal.invariant-loop-code
invariant-loop-code l = (length l.text ≡ length l.initial.text) × ((l.text, l.next) ≡ said (l.initial.text, l.at) (codes_text (take l.code-index l.codes)))
