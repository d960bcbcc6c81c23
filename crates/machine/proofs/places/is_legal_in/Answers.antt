-- `is_legal_in` meets its promise. Assumes nothing.
use Rattle.basis.specs.Prelude.{ℕ, ◌*◌, ◌≡◌, refl, arith, drop, length-drop, take_all}
use Rattle.machine.proofs.Names.{all_of, sheet_in, record_wide}
use Rattle.machine.proofs.Inside.LegalChecks.{legal_in_short, legal_in_more, legal_in_fails, legal_in_done}
use Rattle.machine.proofs.Inside.Zeros.{zero_rest}
use Rattle.machine.proofs.places.is_legal_in.Goals as goal

pub returns-then-list-long : goal.returns-then-list-long
returns-then-list-long c = legal_in_short _ _ c.args.sheet.fine (omega arith)

pub loop-i-init : goal.loop-i-init
unfolding all_of
loop-i-init c = refl

pub returns-then-not-is_legal_record : goal.returns-then-not-is_legal_record
returns-then-not-is_legal_record c = legal_in_fails _ _ c.args.sheet.fine _ (omega arith) (rw (c.row.ensures, c.record_in.ensures) at c.if-not-is_legal_record.ensures)

pub loop-i-preserved : goal.loop-i-preserved
loop-i-preserved c = legal_in_more _ _ _ c.loop-i.invariant (rw (c.row.ensures, c.record_in.ensures) at c.if-not-is_legal_record.ensures)

pub returns : goal.returns
returns c =
    let long : ℕ = c.args.sheet.rows * record_wide in
    let rows : c.loop-i.i ≡ (sheet_in c.args.sheet.list.now).count = omega arith in
    legal_in_done _ _ c.args.sheet.fine (rw rows at c.loop-i.invariant) _
    (rw (← c.args.sheet.counted) (zero_rest long c.args.list.now _ (take_all _ (drop long c.args.list.now) (omega (arith, length-drop {A = ℕ}))) _ c.is_zero.ensures.0 c.is_zero.ensures.1))
