-- Every starred case is right: one statement over one list. Assumes nothing.
use Rattle.basis.specs.Words.{Each}
use Rattle.numbers.proofs.Cases.{case_I}
use Rattle.bound.proofs.Worked.{cases_are_right}
use Rattle.machine.proofs.Cases.{case_G, case_H}
use Rattle.cases.specs.Starred.{Holds, starred}

pub starred_cases_are_right : Each Holds starred
starred_cases_are_right =
    let (a, (b, (c, (d, (e, (f, _)))))) = cases_are_right in
    (a, (b, (c, (d, (e, (f, (case_G, (case_H, case_I))))))))
