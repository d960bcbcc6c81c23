-- `label_parts` meets its promise: each part of its own list. Assumes nothing.
use Rattle.basis.specs.Prelude.{rules}
use Rattle.reader.proofs.Names.{upto_none, upto_whole, labels_in}
use Rattle.reader.proofs.Inside.ZeroLists.{part_was_read, one_part_more}
use Rattle.reader.proofs.labels.label_parts.Goals as goal

pub loop-i-init : goal.loop-i-init
unfolding labels_in
loop-i-init c = (search rules, search upto_none, λ k h. search part_was_read)

pub loop-i-preserved : goal.loop-i-preserved
unfolding labels_in
loop-i-preserved c = (search rules, search one_part_more, search rules)

pub returns : goal.returns
unfolding labels_in
returns c = search upto_whole
