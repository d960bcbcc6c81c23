-- `rows_are_legal` says whether all rows are: the loop has found the first i so. Assumes nothing.
use Rattle.basis.specs.Prelude.{refl}
use Rattle.sheet.proofs.Names.{all_of}
use Rattle.sheet.proofs.Ranges.{rows_legal_more, rows_legal_fails}
use Rattle.sheet.proofs.legal.rows_are_legal.Goals as goal

pub loop-i-init : goal.loop-i-init
unfolding all_of
loop-i-init c = refl

pub loop-i-preserved : goal.loop-i-preserved
loop-i-preserved c = search rows_legal_more

pub returns-then-not-is_legal_row : goal.returns-then-not-is_legal_row
returns-then-not-is_legal_row c = search rows_legal_fails
