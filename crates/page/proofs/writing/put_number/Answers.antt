-- `put_number` meets its promise. Assumes nothing.
use Rattle.page.proofs.Digits.{digit_said}
use Rattle.page.proofs.writing.put_number.Goals as goal

pub returns-then-n-lt10 : goal.returns-then-n-lt10
returns-then-n-lt10 c = search digit_said
