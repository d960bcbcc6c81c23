-- `next` meets its promise: the rows so far have had their slot. Assumes nothing.
use Rattle.basis.specs.Prelude.{◌≡◌, refl, ap, arith}
use Rattle.states.proofs.Names.{upto, free_at, given, next_state, next_codes, state_of}
use Rattle.states.proofs.Inside.ValueLists.{next_free, next_rows, next_writes}
use Rattle.states.proofs.state.State.next.Goals as goal

pub loop-i-init : goal.loop-i-init
unfolding upto free_at given
loop-i-init c = (refl, refl, refl)

pub loop-i-preserved : goal.loop-i-preserved
loop-i-preserved c = (search next_free, search next_rows, search next_writes)

pub returns : goal.returns
unfolding next_state next_codes
returns c = let all : c.loop-i.i ≡ c.args.sheet.count = omega arith in (ap state_of (rw all at c.loop-i.invariant.1), rw all at c.loop-i.invariant.2)
