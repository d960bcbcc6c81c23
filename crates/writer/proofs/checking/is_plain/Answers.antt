-- `is_plain` meets its promise: the bytes so far are such. Assumes nothing.
use Rattle.basis.specs.Prelude.{refl, arith}
use Rattle.writer.proofs.Names.{all_of}
use Rattle.writer.proofs.Inside.Checks.{plain_low, plain_high, plain_more, plain_whole}
use Rattle.writer.proofs.checking.is_plain.Goals as goal
use Rattle.writer.proofs.checking.is_plain.Goals.{then-b-lt33-via-then-b-lt33, then-b-lt33-via-else-b-lt33+then-b-gt126}

pub loop-b-init : goal.loop-b-init
unfolding all_of
loop-b-init c = refl

pub returns-then-b-lt33 : goal.returns-then-b-lt33
returns-then-b-lt33 c =
    elim c.then-b-lt33.branch [
      | then-b-lt33-via-then-b-lt33 w ↦ plain_low _ _ c.loop-b-test.true w.if-b-lt33.true
      | then-b-lt33-via-else-b-lt33+then-b-gt126 w ↦ plain_high _ _ c.loop-b-test.true w.if-b-gt126.true
    ]

pub loop-b-preserved : goal.loop-b-preserved
loop-b-preserved c = plain_more c.args.label.now _ c.loop-b.invariant c.if-b-lt33.false c.if-b-gt126.false

pub returns : goal.returns
returns c = plain_whole _ _ c.loop-b.invariant (omega arith) (omega arith)
