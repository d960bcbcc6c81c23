-- `begins_with` meets its promise: the front of the bytes is the mark. Assumes nothing.
use Rattle.basis.specs.Prelude.{◌∙◌, arith}
use Rattle.basis.proofs.Marks.{begins_short, begins_front}
use Rattle.basis.proofs.mark.begins_with.Goals as goal

pub returns-then-bytes-mark : goal.returns-then-bytes-mark
returns-then-bytes-mark c = begins_short _ _ (omega arith)

pub returns : goal.returns
returns c = c.eq.ensures ∙ begins_front _ _ (omega arith)
