-- `giachimu_verdict` meets its promise: the text is whole in a buffer with room for any, and is copied from its own where it fits. Assumes nothing.
use Rattle.basis.specs.Prelude.{ℕ, List, ap, ◌++◌, drop}
use Rattle.dashboard.proofs.Buffers.{written_in_room}
use Rattle.exports.proofs.Inside.Texts.{text_is_written, text_needs_room, text_is_copied}
use Rattle.exports.proofs.verdicts.giachimu_verdict.Goals as goal

pub returns-then-text-ge-TEXT_SIZE : goal.returns-then-text-ge-TEXT_SIZE
returns-then-text-ge-TEXT_SIZE c = search text_is_written

pub slice_bounds-whole-end : goal.slice_bounds-whole-end
slice_bounds-whole-end c = search written_in_room

pub returns-then-text-count : goal.returns-then-text-count
returns-then-text-count c = search text_needs_room

pub returns : goal.returns
returns c =
    text_is_copied _ _ _ _ c.text_buffer-whole.ensures c.write_verdict-count.ensures _ _ _ _ c.if-text-count.false
    (ap (λ (front : List ℕ). front ++ drop c.write_verdict-count.result c.args.text.now) c.copy_from_slice.ensures.after) c.tell-2.ensures
