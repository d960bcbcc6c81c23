-- `step_rows` meets its promise. Assumes nothing.
use Rattle.basis.specs.Prelude.{◌<◌, ◌≡◌, rules, refl, arith}
use Rattle.machine.proofs.Names.{upto, sheet_in, free_at, given, put_to}
use Rattle.machine.proofs.LegalLists.{kept_long}
use Rattle.machine.proofs.SlotsInPlace.{free_moves, list_moves, codes_move, codes_done}
use Rattle.machine.proofs.inplace.step_rows.Goals as goal

pub loop-i-init : goal.loop-i-init
unfolding upto put_to free_at given
loop-i-init c = (search rules, refl, refl)

pub step_row-stepped-requires : goal.step_row-stepped-requires
step_row-stepped-requires c = omega (arith, kept_long _ _ c.args.sheet.fine c.requires.0 _ c.args.sheet.counted)

pub loop-i-preserved : goal.loop-i-preserved
loop-i-preserved c = let below : c.loop-i.i < (sheet_in c.args.sheet.list.now).count = omega arith in (search free_moves, search list_moves, search codes_move)

pub returns : goal.returns
returns c =
    let all : c.loop-i.i ≡ c.args.sheet.rows = omega arith in
    let rows : c.loop-i.i ≡ (sheet_in c.args.sheet.list.now).count = omega arith in
    (rw all at c.loop-i.invariant.1, codes_done _ _ _ _ _ (rw rows at c.loop-i.invariant.2))
