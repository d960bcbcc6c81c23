-- `read_up_to` meets its promise: an error of the range is its own number and place. Assumes nothing.
use Rattle.basis.specs.Prelude.{refl}
use Rattle.numbers.proofs.Encoding.{up_to_told}
use Rattle.numbers.proofs.number.read_up_to.Goals as goal

pub returns : goal.returns
returns c = up_to_told _ (λ e. e) (λ x e q. q) _ _ _ _ _ _ _ _ refl refl c.in_range.ensures
