-- `no_room` says that no length passes only where none does. Assumes nothing.
use Rattle.basis.specs.Prelude.{rules}
use Rattle.bound.proofs.Amounts.{fine_room_fits}
use Rattle.bound.proofs.Shares.{room_told}
use Rattle.bound.proofs.share.no_room.Goals as goal

pub reaches-requires : goal.reaches-requires
reaches-requires c = (search rules, search fine_room_fits)

pub returns : goal.returns
returns c = search room_told
