-- `number_length` meets its promise. The invariant: the groups passed, and those of what is left, are the width. Assumes nothing.
use Rattle.basis.specs.Prelude.{arith}
use Rattle.numbers.proofs.Inside.Writing.{measured_none, measured_last, measured_more, measured_all}
use Rattle.numbers.proofs.writing.number_length.Goals as goal

pub loop-i-init : goal.loop-i-init
loop-i-init c = measured_none _

pub returns-then-v-lt128 : goal.returns-then-v-lt128
returns-then-v-lt128 c = (measured_last _ _ _ _ c.loop-i.invariant (omega arith) c.if-v-lt128.true, omega arith)

pub loop-i-preserved : goal.loop-i-preserved
loop-i-preserved c = measured_more _ _ _ _ c.loop-i.invariant _ (omega arith) c.if-v-lt128.false

pub returns : goal.returns
returns c = (measured_all _ _ _ _ c.loop-i.invariant (omega arith), omega arith)
