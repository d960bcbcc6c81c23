-- `slot_length` meets its promise. Assumes nothing.
use Rattle.scenario.proofs.Inside.Lengths.{slot_long}
use Rattle.scenario.proofs.writer.slot_length.Goals as goal

pub returns : goal.returns
returns c = slot_long _ _ _ _ c.count_releases.ensures c.number_length.ensures.0 c.releases_length.ensures.0
