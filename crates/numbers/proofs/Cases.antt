-- Case I holds of the definitions. Assumes nothing.
use Rattle.basis.specs.Prelude.{refl}
use Rattle.numbers.proofs.Names.{Each, groups}
use Rattle.numbers.specs.Cases.{case_i, RightNumber}

pub case_I : Each RightNumber case_i
unfolding groups
case_I = (refl, (refl, tt))
