-- `read_scenario` meets its promise. Assumes nothing.
use Rattle.basis.specs.Prelude.{ap, sym}
use Rattle.basis.proofs.Refusals.{passed_on}
use Rattle.scenario.proofs.Names.{filled_by}
use Rattle.scenario.proofs.Inside.Reads.{read_illegal, read_unmarked, read_rest, read_short, fill_room, read_whole}
use Rattle.scenario.proofs.reader.read_scenario.Goals as goal

pub returns-in_err-rows : goal.returns-in_err-rows
returns-in_err-rows c = rw (passed_on _ _ c.from_residual.ensures.1) (read_illegal _ _ _ _ c.in_err-rows.ensures)

pub returns-then-not-begins_with : goal.returns-then-not-begins_with
returns-then-not-begins_with c = read_unmarked _ _ _ _ c.in_ok-rows.ensures _ c.begins_with.ensures c.if-not-begins_with.true

pub returns-in_err-slots : goal.returns-in_err-slots
returns-in_err-slots c = rw (passed_on _ _ c.from_residual-in_err-slots.ensures.1) (read_rest _ _ _ _ c.in_ok-rows.ensures _ c.begins_with.ensures c.if-not-begins_with.false _ (sym (ap (λ x. filled_by x c.args.releases.now) c.in_err-slots.ensures)))

pub returns-then-releases-rows : goal.returns-then-releases-rows
returns-then-releases-rows c =
    read_rest _ _ _ _ c.in_ok-rows.ensures _ c.begins_with.ensures c.if-not-begins_with.false _
    (read_short _ _ _ _ c.in_ok-rows.rows.counted c.in_ok-rows.rows.some _ c.in_ok-slots.ensures c.if-releases-rows.true)

pub fill-requires-2 : goal.fill-requires-2
fill-requires-2 c =
    fill_room _ _ _ _ c.in_ok-rows.rows.counted c.in_ok-rows.rows.some _ c.in_ok-slots.ensures c.if-releases-rows.false _ (c.fill.ensures.after (λ y e. e))

pub returns : goal.returns
returns c =
    read_rest _ _ _ _ c.in_ok-rows.ensures _ c.begins_with.ensures c.if-not-begins_with.false _
    (read_whole _ _ _ _ c.in_ok-rows.rows.counted c.in_ok-rows.rows.some _ c.in_ok-slots.ensures c.if-releases-rows.false _ (c.fill.ensures.after (λ y e. e)) _ c.fill-2.ensures)
