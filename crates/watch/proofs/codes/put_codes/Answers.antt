-- `put_codes` meets its promise. The invariant: what is said so far is the codes passed. Assumes nothing.
use Rattle.basis.specs.Prelude.{rules, refl}
use Rattle.watch.proofs.Names.{codes_text, said}
use Rattle.watch.proofs.Inside.Lines.{code_said, codes_said}
use Rattle.watch.proofs.codes.put_codes.Goals as goal

pub loop-code-init : goal.loop-code-init
unfolding said codes_text
loop-code-init c = (search rules, refl)

pub loop-code-preserved : goal.loop-code-preserved
unfolding said codes_text
loop-code-preserved c = (search rules, search code_said)

pub returns : goal.returns
unfolding said codes_text
returns c = search codes_said
