-- `write_entry` meets its promise. Assumes nothing.
use Rattle.basis.specs.Prelude.{rules}
use Rattle.writer.proofs.Inside.Stored.{part_lies, part_ends, cut_short, entry_next, entry_stored}
use Rattle.writer.proofs.checking.Source.write_entry.Goals as goal

pub overflow_add-label : goal.overflow_add-label
overflow_add-label c = search (rules, part_ends)

pub slice_bounds-label-end : goal.slice_bounds-label-end
slice_bounds-label-end c = search part_lies

pub write_label-next-requires : goal.write_label-next-requires
write_label-next-requires c = (search cut_short, search rules)

pub returns : goal.returns
returns c = (search entry_next, search rules, search entry_stored)
