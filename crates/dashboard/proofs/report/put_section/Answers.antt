-- `put_section` meets its promise. Assumes nothing.
use Rattle.dashboard.proofs.Names.{section, three_said}
use Rattle.dashboard.proofs.report.put_section.Goals as goal

pub returns : goal.returns
unfolding section
returns c = search three_said
