-- `clear_from` meets its promise: from the place on, those so far are zero. Assumes nothing.
use Rattle.basis.specs.Prelude.{rules}
use Rattle.sheet.proofs.Inside.ClearedLists.{none_cleared, rest_cleared}
use Rattle.sheet.proofs.writing.clear_from.Goals as goal

pub returns-then-from-list : goal.returns-then-from-list
returns-then-from-list c = search (rest_cleared, rules)

pub returns-else-from-list : goal.returns-else-from-list
returns-else-from-list c = search none_cleared
