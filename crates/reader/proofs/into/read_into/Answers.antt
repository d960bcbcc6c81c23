-- `read_into` meets its promise: what stands before the rows, then the rows. Assumes nothing.
use Rattle.basis.specs.Prelude.{sym}
use Rattle.reader.proofs.Names.{passed_on}
use Rattle.reader.proofs.Inside.Handover.{head_refused}
use Rattle.reader.proofs.into.read_into.Goals as goal

pub read_body-requires : goal.read_body-requires
read_body-requires c = sym c.in_ok-top.ensures

pub returns-in_err-top : goal.returns-in_err-top
returns-in_err-top c = rw (passed_on _ _ c.from_residual.ensures.1) (head_refused _ _ _ c.in_err-top.ensures _ _)
