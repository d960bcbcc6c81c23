-- `write_number` meets its promise. The invariant: what is still to be written, over what is stored, is the whole. Assumes nothing.
use Rattle.basis.specs.Prelude.{arith}
use Rattle.numbers.proofs.Inside.Writing.{measured_none, measured_last, measured_more, measured_all, stored_none, stored_last, stored_more, stored_all}
use Rattle.numbers.proofs.writing.write_number.Goals as goal

pub loop-i-init : goal.loop-i-init
loop-i-init c = (measured_none _, stored_none _ _ _)

-- The last group: what is left of the value is less than 128,
-- so that it takes one group more, and is stored as it is.
pub returns-then-v-lt128 : goal.returns-then-v-lt128
returns-then-v-lt128 c = (measured_last _ _ _ _ c.loop-i.invariant.0 (omega arith) c.if-v-lt128.true, omega arith, search (stored_last _ _ _ _ _ _ _ c.loop-i.invariant.1 (omega arith) c.if-v-lt128.true))

pub loop-i-preserved : goal.loop-i-preserved
loop-i-preserved c = (measured_more _ _ _ _ c.loop-i.invariant.0 _ (omega arith) c.if-v-lt128.false, stored_more _ _ _ _ _ _ _ c.loop-i.invariant.1 _ (omega arith) c.if-v-lt128.false _ c.put-in-loop-i.ensures)

pub returns : goal.returns
returns c = (measured_all _ _ _ _ c.loop-i.invariant.0 (omega arith), omega arith, stored_all _ _ _ _ _ _ _ c.loop-i.invariant.1 (omega arith))
