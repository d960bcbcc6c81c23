-- `read_label` meets its promise: each way out is a law of `label`. Assumes nothing.
use Rattle.basis.specs.Prelude.{◌∙◌, arith}
use Rattle.reader.proofs.Names.{passed_on, ranged_is}
use Rattle.reader.proofs.Inside.LabelReader.{label_no_length, label_ends, label_lies_at, label_too_long, label_bad_byte, label_whole}
use Rattle.reader.proofs.row.read_label.Goals as goal

pub returns-in_err-count : goal.returns-in_err-count
returns-in_err-count c = rw (passed_on _ _ c.from_residual.ensures.1) (label_no_length _ _ _ _ (c.in_err-count.ensures ∙ ranged_is _ 6 6 _ _), tt)

pub overflow_add-end : goal.overflow_add-end
overflow_add-end c = label_ends _ _ _ _ (c.in_ok-count.ensures ∙ ranged_is _ 6 6 _ _) (omega arith)

pub returns-then-bytes-end : goal.returns-then-bytes-end
returns-then-bytes-end c = (label_too_long _ _ _ _ (c.in_ok-count.ensures ∙ ranged_is _ 6 6 _ _) c.if-bytes-end.true, tt)

pub returns-in_err-next : goal.returns-in_err-next
returns-in_err-next c =
    rw (passed_on _ _ c.from_residual-in_err-next.ensures.1)
    (label_bad_byte _ _ _ _ (c.in_ok-count.ensures ∙ ranged_is _ 6 6 _ _) c.if-bytes-end.false _ _ c.in_err-next.ensures, tt)

pub returns : goal.returns
returns c =
    let e = c.in_ok-count.ensures ∙ ranged_is _ 6 6 _ _ in
    (label_whole _ _ _ _ e c.if-bytes-end.false _ c.in_ok-next.ensures, label_lies_at _ _ _ _ e)
