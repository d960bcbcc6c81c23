-- A number has fewer digits each time.
use Rattle.page.proofs.writing.+put_digits.Given as goal

-- proposed from what the function passes where it calls itself
abbrev pub decreases-put_digits : goal.decreases-put_digits
decreases-put_digits l = l.n
