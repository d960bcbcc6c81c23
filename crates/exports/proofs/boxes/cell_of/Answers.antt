-- `cell_of` meets its promise. Assumes nothing.
use Rattle.exports.proofs.Inside.BoxAnswers.{even_cell, odd_cell}
use Rattle.exports.proofs.boxes.cell_of.Goals as goal

pub returns-then-at-eq0 : goal.returns-then-at-eq0
returns-then-at-eq0 c = search even_cell

pub returns-else-at-eq0 : goal.returns-else-at-eq0
returns-else-at-eq0 c = search odd_cell
