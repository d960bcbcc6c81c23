-- Wrong ways to write into a lent buffer are shut out: in a buffer of two bytes no answer with the fault meets the promise. Assumes nothing.
use Rattle.basis.specs.Prelude.{ℕ, refl, [], ◌∷◌, arith, get_or}
use Rattle.basis.specs.Faults.{NoneMeets}
use Rattle.basis.proofs.Faults.{apart}
use Rattle.page.specs.Pages.{Page, put_one, said}
use Rattle.page.specs.Decimals.{digits, decimal}
use Rattle.page.specs.Wrong.{past_the_end, counted_only, one_over_another, lowest_first, zero_in_front}

-- two bytes, and a place in them
abbrev two_at : ℕ → Page
two_at i = (9 ∷ 9 ∷ [], i)

-- the first byte of the buffer
abbrev first : Page → ℕ
first p = get_or p.0 0 0

-- ---- `put`

pub past_the_end_is_shut_out : NoneMeets (past_the_end (two_at 2) 1) (said (two_at 2) (1 ∷ []))
unfolding past_the_end said put_one
past_the_end_is_shut_out = apart (λ (p : Page). p.1) _ _ 3 2 refl refl (λ e. omega arith)

pub counted_only_is_shut_out : NoneMeets (counted_only (two_at 0) (1 ∷ [])) (said (two_at 0) (1 ∷ []))
unfolding counted_only said put_one
counted_only_is_shut_out = apart first _ _ 9 1 refl refl (λ e. omega arith)

-- ---- `put_bytes`

pub two_counted_only_is_shut_out : NoneMeets (counted_only (two_at 0) (1 ∷ 2 ∷ [])) (said (two_at 0) (1 ∷ 2 ∷ []))
unfolding counted_only said put_one
two_counted_only_is_shut_out = apart first _ _ 9 1 refl refl (λ e. omega arith)

pub one_over_another_is_shut_out : NoneMeets (one_over_another (two_at 0) (1 ∷ 2 ∷ [])) (said (two_at 0) (1 ∷ 2 ∷ []))
unfolding one_over_another said put_one
one_over_another_is_shut_out = apart first _ _ 2 1 refl refl (λ e. omega arith)

-- ---- `put_number`

pub lowest_first_is_shut_out : NoneMeets (said (two_at 0) (lowest_first 20 12)) (said (two_at 0) (decimal 12))
unfolding lowest_first decimal digits said put_one
lowest_first_is_shut_out = apart first _ _ 0x32 0x31 refl refl (λ e. omega arith)

pub zero_in_front_is_shut_out : NoneMeets (said (two_at 0) (zero_in_front 7)) (said (two_at 0) (decimal 7))
unfolding zero_in_front decimal digits said put_one
zero_in_front_is_shut_out = apart first _ _ 0x30 0x37 refl refl (λ e. omega arith)
