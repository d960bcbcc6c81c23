-- `slot_part` meets its promise. Assumes nothing.
use Rattle.machine.proofs.Inside.Courses.{slot_at_refused}
use Rattle.machine.proofs.SlotsInPlace.{part_accepted, part_legal}
use Rattle.basis.proofs.Refusals.{passed_on}
use Rattle.machine.proofs.inplace.slot_part.Goals as goal

-- A slot that is refused leaves the state and the codes as found,
-- and is told with the row that was refused.
pub returns-in_err-check_releases_in : goal.returns-in_err-check_releases_in
returns-in_err-check_releases_in c =
    (rw (passed_on _ _ c.from_residual.ensures.1) (slot_at_refused _ _ _ _ _ _ c.args.sheet.counted c.args.sheet.fine c.requires.0 c.requires.1 c.requires.2 _ _ c.in_err-check_releases_in.ensures), c.requires.0)

pub returns : goal.returns
returns c = let passed = c.in_ok-check_releases_in.ensures in (search part_accepted, search part_legal)
