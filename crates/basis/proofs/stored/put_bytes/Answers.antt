-- `put_bytes` meets its promise: the bytes so far are stored. Assumes nothing.
use Rattle.basis.specs.Prelude.{rules, sym}
use Rattle.basis.proofs.Inside.Stores.{sets_out, put_none, put_more, put_full, put_whole}
use Rattle.basis.proofs.stored.put_bytes.Goals as goal

pub returns-then-buffer-at : goal.returns-then-buffer-at
returns-then-buffer-at c = sym (search sets_out)

pub loop-i-init : goal.loop-i-init
loop-i-init c = (search rules, search put_none)

pub returns-then-room-i : goal.returns-then-room-i
returns-then-room-i c = search put_full

pub loop-i-preserved : goal.loop-i-preserved
loop-i-preserved c = (search rules, search put_more)

pub returns : goal.returns
returns c = search put_whole
