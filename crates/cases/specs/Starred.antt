-- The starred cases A to I, in one list.
use Rattle.std.specs.Prelude.{◌∷◌, ◌++◌}
use Rattle.basis.specs.Prelude.{List, map}
use Rattle.numbers.specs.Cases.{NumberCase, case_i, RightNumber}
use Rattle.bound.specs.Cases.{Case, cases, Right}
use Rattle.machine.specs.Cases.{RunCase, case_g, case_h, RightRun}

-- A starred case: the results of a sheet's rows, the codes of a run, or what a number's bytes give.
pub data Starred : Type 0 where
  results_are : Case → Starred
  codes_are : RunCase → Starred
  number_is : NumberCase → Starred

-- It is right by the definitions.
abbrev pub Holds : Starred → Type 0
Holds (results_are c) = Right c
Holds (codes_are c) = RightRun c
Holds (number_is c) = RightNumber c

-- A to F, G, H and I.
abbrev pub starred : List Starred
starred = map results_are cases ++ (codes_are case_g ∷ codes_are case_h ∷ map number_is case_i)
