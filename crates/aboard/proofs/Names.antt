-- The names from elsewhere that the proofs here share, passed on under one name.
pub use Rattle.aboard.specs.Lent.{slotted_in}
pub use Rattle.basis.specs.Refusals.{Outcome, accepted, refused, handed}
unfoldable pub use Rattle.basis.specs.Refusals.{first_of}
pub use Rattle.basis.specs.declared.refusal.Refusal.{Refusal}
pub use Rattle.machine.proofs.Inside.Answers.{refused_as_found, run_buffer, run_list}
pub use Rattle.machine.specs.Answers.{FreshAnswer, SlotAnswer, entries_of, fresh_answer, run_answer, slot_answer}
unfoldable pub use Rattle.machine.specs.Answers.{course, fresh, run, slot, slot_at}
unfoldable pub use Rattle.machine.specs.Checks.{check_releases, check_room, check_run, check_slot, check_state}
pub use Rattle.sheet.specs.declared.row.Sheet.{Sheet}
pub use Rattle.states.proofs.Same.{held_one_to_one, ran_one_to_one}
pub use Rattle.states.specs.Values.{held, ran}
pub use Rattle.states.specs.declared.runs.Ran.{Ran}
pub use Rattle.states.specs.declared.state.State.{State}
