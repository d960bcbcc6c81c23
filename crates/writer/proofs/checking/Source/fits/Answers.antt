-- `fits` meets its promise: the room that is left, and the rows so far, are the whole room. Assumes nothing.
use Rattle.basis.specs.Prelude.{rules}
use Rattle.writer.proofs.Inside.Lengths.{fits_longest, head_is, fits_no_head, fits_none, fits_no_label, fits_no_row, fits_more, fits_all}
use Rattle.writer.proofs.Longest.{all_short}
use Rattle.writer.proofs.checking.Source.fits.Goals as goal

pub returns-then-room-ge-LONGEST_SHEET : goal.returns-then-room-ge-LONGEST_SHEET
returns-then-room-ge-LONGEST_SHEET c = let short = all_short _ _ _ c.args.self.now.fine in search fits_longest

pub returns-then-room-head : goal.returns-then-room-head
returns-then-room-head c = search fits_no_head

pub loop-i-init : goal.loop-i-init
loop-i-init c = (search head_is, search fits_none)

pub returns-then-left-long : goal.returns-then-left-long
returns-then-left-long c = search fits_no_label

pub returns-then-left-long-2 : goal.returns-then-left-long-2
returns-then-left-long-2 c = search fits_no_row

pub loop-i-preserved : goal.loop-i-preserved
loop-i-preserved c = (search rules, search fits_more)

pub returns : goal.returns
returns c = search fits_all
