-- The bytes that a program reads decide the text. Assumes nothing.
use Rattle.basis.specs.Prelude.{ℕ, ◌+◌, ◌≡◌, refl, sym, ap, ◌∙◌, ⊎_elim, List, arith, length, take, take_all}
use Rattle.dashboard.proofs.Names.{Outcome, lt_or_le, spelt, width, longest_row, longest_sheet, Sheet, accepted_read, accepted_is_short, first_bytes_decide, verdict_text, input_size}
use Rattle.dashboard.proofs.Outcomes.{refused_prints_one_line, by_outcome}

-- 871 bytes at these limits
pub input_is_871 : input_size ≡ 871
unfolding input_size longest_sheet longest_row width spelt
input_is_871 = refl

-- what stands past them changes nothing
pub first_bytes_decide_the_text : (s : List ℕ) → verdict_text (take input_size s) ≡ verdict_text s
unfolding input_size
first_bytes_decide_the_text s =
    ⊎_elim (λ h. by_outcome s (λ e. let (x, n, q) = accepted_read s e in absurd (omega (arith, accepted_is_short s x n q)))
    (λ k p e. refused_prints_one_line (take (longest_sheet + 1) s) k p (ap (λ (a : Outcome × Sheet). a.0) (first_bytes_decide s) ∙ e) ∙ sym (refused_prints_one_line s k p e)))
    (λ h. ap verdict_text (take_all (longest_sheet + 1) s h)) (lt_or_le (longest_sheet + 1) (length s))
