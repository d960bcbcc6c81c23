-- `by_shares` steps over lengths that fail: past the deadline, where none up to it passes. Assumes nothing.
use Rattle.basis.specs.Prelude.{rules}
use Rattle.bound.proofs.Shares.{deadline_is_length, after_deadline_fits, past_deadline}
use Rattle.bound.proofs.search.by_shares.Goals as goal

pub no_room-requires : goal.no_room-requires
no_room-requires c = search deadline_is_length

pub plus-requires : goal.plus-requires
plus-requires c = search (after_deadline_fits, rules)

pub returns-then-no_room : goal.returns-then-no_room
returns-then-no_room c = search (past_deadline, ← c.of-deadline.ensures, ← c.of.ensures)
