-- `put_state` meets its promise: the places so far are filled. Assumes nothing.
use Rattle.basis.specs.Prelude.{rules}
use Rattle.exports.proofs.Names.{fill_done}
use Rattle.basis.proofs.Inside.Upto.{upto_none, upto_set}
use Rattle.exports.proofs.boxes.put_state.Goals as goal

pub loop-at-init : goal.loop-at-init
loop-at-init c = (search rules, search upto_none)

pub loop-at-preserved : goal.loop-at-preserved
loop-at-preserved c = (search rules, search upto_set)

pub returns : goal.returns
returns c = search (fill_done, rules)
