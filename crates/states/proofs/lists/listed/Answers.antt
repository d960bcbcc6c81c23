-- `listed` meets its promise: the sheet comes back. Assumes nothing.
use Rattle.basis.specs.Prelude.{rules}
use Rattle.sheet.proofs.Inside.Cells.{unmapped}
use Rattle.states.proofs.Inside.ValueLists.{sheet_in_list}
use Rattle.states.proofs.lists.listed.Goals as goal

pub returns : goal.returns
returns c = search (rules, sheet_in_list, unmapped)
