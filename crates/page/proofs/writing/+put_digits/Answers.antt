-- `put_digits` meets its promise, by recursion on the number: one digit, or those before the last and the last. Assumes nothing.
use Rattle.page.proofs.Digits.{digit_said, digits_said}
use Rattle.page.proofs.writing.+put_digits.Goals as goal

pub returns-then-n-lt10 : goal.returns-then-n-lt10
returns-then-n-lt10 t c = search digit_said

pub returns-else-n-lt10 : goal.returns-else-n-lt10
returns-else-n-lt10 t c = search digits_said
