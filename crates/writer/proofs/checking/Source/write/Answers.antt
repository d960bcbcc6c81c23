-- `write` meets its promise. Assumes nothing.
use Rattle.writer.proofs.Inside.Stored.{no_room, all_written}
use Rattle.writer.proofs.checking.Source.write.Goals as goal

pub returns-then-not-fits : goal.returns-then-not-fits
returns-then-not-fits c = search no_room

pub returns : goal.returns
returns c = search all_written
