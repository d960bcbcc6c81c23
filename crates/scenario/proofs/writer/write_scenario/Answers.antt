-- `write_scenario` meets its promise. Assumes nothing.
use Rattle.basis.proofs.Refusals.{passed_on}
use Rattle.scenario.proofs.Inside.Files.{write_illegal, write_refused, write_short, write_whole}
use Rattle.scenario.proofs.writer.write_scenario.Goals as goal

pub returns-in_err-rows : goal.returns-in_err-rows
returns-in_err-rows c = rw (passed_on _ _ c.from_residual.ensures.1) (write_illegal _ _ _ _ c.in_err-rows.ensures)

pub returns-in_err-check_whole : goal.returns-in_err-check_whole
returns-in_err-check_whole c = rw (passed_on _ _ c.from_residual-in_err-check_whole.ensures.1) (write_refused _ _ _ _ c.in_ok-rows.ensures _ c.in_err-check_whole.ensures)

pub returns-then-not-fits : goal.returns-then-not-fits
returns-then-not-fits c = write_short _ _ _ _ c.in_ok-rows.ensures c.in_ok-check_whole.ensures _ c.fits.ensures c.if-not-fits.true

pub returns : goal.returns
returns c = write_whole _ _ _ _ c.in_ok-rows.ensures c.in_ok-check_whole.ensures _ c.fits.ensures c.if-not-fits.false _ _ c.write_all.ensures
