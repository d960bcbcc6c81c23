-- Wrong ways to write into a lent buffer, each right but for one thing.
use Rattle.std.specs.Prelude.{◌+◌, ◌/◌, ◌%◌, ◌∷◌, ◌++◌}
use Rattle.basis.specs.Prelude.{ℕ, zero, suc, List, [], ltb}
use Rattle.basis.specs.Words.{pick}
use Rattle.page.specs.Pages.{Page, put_one, said}
use Rattle.page.specs.Decimals.{decimal}

-- The next place counts on past the end of the buffer.
unfoldable pub past_the_end : Page → ℕ → Page
past_the_end p b = ((put_one p b).0, p.1 + 1)

-- The place is counted, and nothing is written.
unfoldable pub counted_only : Page → List ℕ → Page
counted_only p text = (p.0, (said p text).1)

-- Some bytes, each at the same place.
unfoldable pub one_over_another : Page → List ℕ → Page
one_over_another p [] = p
one_over_another p (b ∷ text) = one_over_another ((put_one p b).0, p.1) text

-- The digits of a number, the lowest first.
unfoldable pub lowest_first : ℕ → ℕ → List ℕ
lowest_first zero n = []
lowest_first (suc k) n = pick (ltb n 10) ((0x30 + n) ∷ []) (((0x30 + n % 10) ∷ []) ++ lowest_first k (n / 10))

-- A number with a zero in front.
unfoldable pub zero_in_front : ℕ → List ℕ
zero_in_front n = (0x30 ∷ []) ++ decimal n
