-- `read_plain` meets its promise: what is left of the label decides. Assumes nothing.
use Rattle.basis.specs.Prelude.{refl, arith, ⊎_elim}
use Rattle.reader.proofs.Inside.Plain.{plain_low, plain_high, plain_more, plain_all}
use Rattle.reader.proofs.row.read_plain.Goals as goal

pub loop-i-init : goal.loop-i-init
loop-i-init c = refl

pub returns-then-b-lt33 : goal.returns-then-b-lt33
returns-then-b-lt33 c = ⊎_elim (plain_low _ _ _ _ c.requires.1 c.loop-i.invariant c.loop-i-test.true) (λ h. plain_high _ _ _ _ c.requires.1 c.loop-i.invariant c.loop-i-test.true h.0 h.1) c.then-b-lt33.either

pub loop-i-preserved : goal.loop-i-preserved
loop-i-preserved c = plain_more _ _ _ _ c.requires.1 c.loop-i.invariant c.loop-i-test.true c.if-b-lt33.false c.if-b-gt126.false

pub returns : goal.returns
returns c = plain_all _ _ _ _ c.requires.1 c.loop-i.invariant c.loop-i-test.false (omega arith)
