-- `put_sheet` meets its promise: what there is room for is copied, and the rest is made zero. Assumes nothing.
use Rattle.basis.specs.Prelude.{◌∙◌, rules}
use Rattle.sheet.proofs.Inside.Cells.{unmapped}
use Rattle.sheet.proofs.Inside.ClearedLists.{sheet_copied}
use Rattle.sheet.proofs.writing.put_sheet.Goals as goal

pub returns : goal.returns
returns c = c.clear_from.ensures ∙ rw c.copy_from_slice.ensures.after (sheet_copied _ _ _ _ c.cells_of-cells.ensures c.min-n.ensures (search (rules, unmapped)))
