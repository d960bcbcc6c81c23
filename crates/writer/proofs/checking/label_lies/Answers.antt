-- `label_lies` meets its promise. Assumes nothing.
use Rattle.basis.specs.Prelude.{⊎_elim}
use Rattle.writer.proofs.Inside.Checks.{lies_none, lies_long, lies_short_bytes, lies_past, lies_by_bytes}
use Rattle.writer.proofs.checking.label_lies.Goals as goal
use Rattle.writer.proofs.checking.label_lies.Goals.{then-bytes-part-via-then-bytes-part, then-bytes-part-via-else-bytes-part+then-bytes-part-2}

pub returns-then-part-lt1 : goal.returns-then-part-lt1
returns-then-part-lt1 c = ⊎_elim (lies_none _ _) (λ h. lies_long _ _ h.0 h.1) c.then-part-lt1.either

pub returns-then-bytes-part : goal.returns-then-bytes-part
returns-then-bytes-part c =
    elim c.then-bytes-part.branch [
      | then-bytes-part-via-then-bytes-part w ↦ lies_short_bytes _ _ w.if-bytes-part.true
      | then-bytes-part-via-else-bytes-part+then-bytes-part-2 w ↦ lies_past _ _ w.if-bytes-part.false w.if-bytes-part-2.true
    ]

pub returns : goal.returns
returns c = search lies_by_bytes
