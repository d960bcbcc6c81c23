-- `read_head` meets its promise: each way out is a law of `head`. Assumes nothing.
use Rattle.basis.specs.Prelude.{◌∙◌}
use Rattle.reader.proofs.Names.{passed_on, ranged_is}
use Rattle.reader.proofs.Inside.Heads.{head_unmarked, head_no_processors, head_no_count, head_whole}
use Rattle.reader.proofs.head.read_head.Goals as goal

pub returns-then-not-begins_with : goal.returns-then-not-begins_with
returns-then-not-begins_with c = head_unmarked _ c.if-not-begins_with.ensures

pub returns-in_err-processors : goal.returns-in_err-processors
returns-in_err-processors c = rw (passed_on _ _ c.from_residual.ensures.1) (head_no_processors _ c.if-not-begins_with.ensures _ _ (c.in_err-processors.ensures ∙ ranged_is _ 4 4 _ _))

pub returns-in_err-count : goal.returns-in_err-count
returns-in_err-count c =
    rw (passed_on _ _ c.from_residual-in_err-count.ensures.1)
    (head_no_count _ c.if-not-begins_with.ensures _ _ (c.in_ok-processors.ensures ∙ ranged_is _ 4 4 _ _) _ _ (c.in_err-count.ensures ∙ ranged_is _ 5 5 _ _))

pub returns : goal.returns
returns c = head_whole _ c.if-not-begins_with.ensures _ _ (c.in_ok-processors.ensures ∙ ranged_is _ 4 4 _ _) _ _ (c.in_ok-count.ensures ∙ ranged_is _ 5 5 _ _)
