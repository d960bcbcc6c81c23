-- `giachimu_number` meets its promise. Assumes nothing.
use Rattle.exports.proofs.Names.{number_on}
use Rattle.exports.proofs.Inside.NumberAnswers.{read_is_told}
use Rattle.exports.proofs.numerals.giachimu_number.Goals as goal

pub returns : goal.returns
unfolding number_on
returns c = read_is_told _ _ c.read_number.ensures _ _ _ _ _ c.put_both.ensures _ c.tell.ensures
