-- `read_entry` meets its promise: a label, then the numbers. Assumes nothing.
use Rattle.basis.specs.Prelude.{◌∙◌}
use Rattle.reader.proofs.Names.{passed_on}
use Rattle.reader.proofs.Inside.Entries.{entry_no_label, after_label}
use Rattle.reader.proofs.row.read_entry.Goals as goal

pub returns-in_err-label : goal.returns-in_err-label
returns-in_err-label c = rw (passed_on _ _ c.from_residual.ensures.1) (entry_no_label _ _ _ _ _ c.in_err-label.ensures.0, tt)

pub returns-in_err-row : goal.returns-in_err-row
returns-in_err-row c = rw (passed_on _ _ c.from_residual-in_err-row.ensures.1) (c.in_err-row.ensures ∙ after_label _ _ _ _ _ c.in_ok-label.ensures.0, tt)

pub returns : goal.returns
returns c = (c.in_ok-row.ensures ∙ after_label _ _ _ _ _ c.in_ok-label.ensures.0, c.in_ok-label.ensures.1)
