-- `green` meets its promise: what is judged in its own lists is the answer. Assumes nothing.
use Rattle.basis.specs.Prelude.{◌≡◌, ◌∙◌}
use Rattle.bound.specs.Lists.{holding}
use Rattle.green.proofs.GreenAnswers.{unwrapped, green_is}
use Rattle.green.proofs.judge.green.Goals as goal

pub returns : goal.returns
returns c =
    let q : c.unwrap_or.result ≡ holding c.judge_bytes-judged.result = c.unwrap_or.ensures ∙ unwrapped c.judge_bytes-judged.result in
    rw q (green_is _ _ _ _ _ _ c.judge_bytes-judged.ensures)
