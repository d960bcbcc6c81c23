-- `slot` meets its promise: its checks are those of the lists. Assumes nothing.
use Rattle.machine.proofs.Inside.Answers.{rows_in_state, rows_in_list, rows_in_buffer, slot_is_refused, slot_is_accepted}
use Rattle.basis.proofs.Refusals.{passed_on}
use Rattle.states.proofs.Inside.ValueLists.{slot_check_by_list}
use Rattle.states.proofs.state.State.slot.Goals as goal

pub returns-in_err-check_slot_in : goal.returns-in_err-check_slot_in
returns-in_err-check_slot_in c =
    rw (passed_on _ _ c.from_residual.ensures.1) (slot_is_refused _ _ _ _ _ _ (slot_check_by_list _ _ c.listed.ensures _ _ c.state_list.ensures _ _ _ c.in_err-check_slot_in.ensures))

pub next-requires : goal.next-requires
next-requires c =
    let passed = slot_check_by_list _ _ c.listed.ensures _ _ c.state_list.ensures _ _ _ c.in_ok-check_slot_in.ensures in (search rows_in_state, search rows_in_list, search rows_in_buffer)

pub returns : goal.returns
returns c = let passed = slot_check_by_list _ _ c.listed.ensures _ _ c.state_list.ensures _ _ _ c.in_ok-check_slot_in.ensures in search slot_is_accepted
