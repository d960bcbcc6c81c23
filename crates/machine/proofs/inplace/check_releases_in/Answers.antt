-- `check_releases_in` meets its promise. Assumes nothing.
use Rattle.basis.specs.Prelude.{◌≡◌, refl, arith}
use Rattle.machine.proofs.Names.{first_of, sheet_in}
use Rattle.machine.proofs.LegalLists.{kept_long}
use Rattle.machine.proofs.Inside.ChecksInPlace.{check_done, check_in_more, check_in_found}
use Rattle.basis.proofs.Refusals.{passed_on}
use Rattle.machine.proofs.inplace.check_releases_in.Goals as goal

pub loop-i-init : goal.loop-i-init
unfolding first_of
loop-i-init c = refl

pub check_in-requires : goal.check_in-requires
check_in-requires c = omega (arith, kept_long _ _ c.args.sheet.fine c.requires.0 _ c.args.sheet.counted)

pub returns-in_err-check_in : goal.returns-in_err-check_in
returns-in_err-check_in c = rw (passed_on _ _ c.from_residual.ensures.1) (check_in_found _ _ _ c.args.sheet.fine c.requires.0 _ (omega arith) c.loop-i.invariant _ _ c.in_err-check_in.ensures)

pub loop-i-preserved : goal.loop-i-preserved
loop-i-preserved c = check_in_more _ _ _ c.args.sheet.fine c.requires.0 _ (omega arith) c.loop-i.invariant c.in_ok-check_in.ensures

pub returns : goal.returns
returns c = let rows : c.loop-i.i ≡ (sheet_in c.args.sheet.list.now).count = omega arith in check_done _ _ _ (rw rows at c.loop-i.invariant)
