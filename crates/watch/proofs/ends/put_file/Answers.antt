-- `put_file` meets its promise. Assumes nothing.
use Rattle.watch.proofs.Inside.Lines.{sheet_said, scenario_said}
use Rattle.watch.proofs.ends.put_file.Goals as goal

pub returns-in-Sheet : goal.returns-in-Sheet
returns-in-Sheet c = search sheet_said

pub returns-in-Scenario : goal.returns-in-Scenario
returns-in-Scenario c = search scenario_said
