-- `read_body` meets its promise: the rows, nothing after them, and both lists handed over. Assumes nothing.
use Rattle.reader.proofs.Names.{passed_on}
use Rattle.reader.proofs.Inside.Handover.{few_rows, own_inside, parts_inside, rows_refused, bytes_over, whole_read}
use Rattle.reader.proofs.into.read_body.Goals as goal

pub take_rows-requires : goal.take_rows-requires
take_rows-requires c = (search few_rows, search own_inside, search parts_inside)

pub returns-in_err-next : goal.returns-in_err-next
returns-in_err-next c = rw (passed_on _ _ c.from_residual.ensures.1) (rows_refused _ _ _ _ c.requires _ _ _ _ c.in_err-next.ensures.0)

pub returns-then-next-bytes : goal.returns-then-next-bytes
returns-then-next-bytes c = bytes_over _ _ _ _ c.requires _ _ _ c.in_ok-next.ensures.0 c.if-next-bytes.true

pub hand_over-requires : goal.hand_over-requires
hand_over-requires c = (search few_rows, search own_inside, search parts_inside)

pub returns : goal.returns
returns c = whole_read _ _ _ _ c.requires _ _ _ c.in_ok-next.ensures.0 c.if-next-bytes.false _ _ _ _ (search own_inside) (search parts_inside) c.in_ok-next.ensures.1.0 c.in_ok-next.ensures.1.1 _ c.hand_over.ensures
