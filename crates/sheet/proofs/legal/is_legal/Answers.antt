-- `is_legal` meets its promise: its head, its length and its rows decide. Assumes nothing.
use Rattle.basis.specs.Prelude.{rules}
use Rattle.sheet.proofs.Ranges.{ends_before_rows, rows_decide, head_fails}
use Rattle.sheet.proofs.legal.is_legal.Goals as goal

pub returns-then-not-is_legal_head : goal.returns-then-not-is_legal_head
returns-then-not-is_legal_head c = search head_fails

pub returns-then-n-list : goal.returns-then-n-list
returns-then-n-list c = search rows_decide

pub returns-else-n-list : goal.returns-else-n-list
returns-else-n-list c = search (ends_before_rows, rules)
