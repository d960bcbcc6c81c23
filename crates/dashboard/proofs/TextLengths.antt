-- How long a text can be: any is whole in the buffer that the programs lend. Assumes nothing.
use Rattle.basis.specs.Prelude.{ℕ, zero, suc, ◌+◌, ◌*◌, ◌≤◌, ◌<◌, ◌≡◌, refl, Bool, true, false, List, ◌++◌, arith, length, drop, length-append, length-take}
use Rattle.dashboard.proofs.Names.{most_rows, longest_label, most_separation, sum, sum_grows, accepted, sheet, Legal, reading, rows_read, Sheet, accepted_read, accepted_is_legal, legal_is, label_of_row, passes, Word, bound, none, unreached, is_bound, value_of, result_of, holds, bound_in_range, passes_local, digits, decimal, most_digits, bound_word, result_words, line_start, line, holds_line, ending, refused_by, no_verdict, own_label, lines, board, verdict_text, reference_text, written, longest_line, longest_text, text_size, decimal_grows, decimal_is_short}
use Rattle.page.proofs.Inside.Written.{whole_text}
use Rattle.dashboard.proofs.Cases.{reference_is}
use Rattle.dashboard.proofs.Outcomes.{by_outcome, accepted_prints_its_rows, refused_prints_one_line}

-- what the limits have to be: the bound of the longest line is no shorter than the word unreached, and the longest text is no shorter than a refusal
limits : (5 ≤ length (decimal most_separation)) × (13 + 2 * most_digits ≤ longest_text)
unfolding longest_text longest_line decimal digits sum
limits = omega arith

-- ---- a line

-- a result whose bound is no larger than a separation
abbrev Small : Word → Type 0
Small w = is_bound w ≡ true → (value_of w).0 ≤ most_separation

result_is_short : (w : Word) → Small w → length (result_words w) ≤ length bound_word + length (decimal most_separation)
unfolding result_words
result_is_short (bound r) h = rw length-append (omega (arith, decimal_grows r most_separation (h refl)))
result_is_short none h = omega (arith, limits)
result_is_short unreached h = omega (arith, limits)

line_is_short : (row : ℕ) (label : List ℕ) (w : Word) → length label ≤ longest_label → Small w → length (line row label w) ≤ longest_line row
unfolding line line_start longest_line
line_is_short row label w l s = simp length-append (omega (arith, result_is_short w s))

lines_are_short : (label : ℕ → List ℕ) (result : ℕ → Word) (n : ℕ) → ((i : ℕ) → i < n → length (label i) ≤ longest_label) → ((i : ℕ) → i < n → Small (result i))
    → length (lines label result n) ≤ sum n longest_line
unfolding lines sum
lines_are_short label result zero l s = omega arith
lines_are_short label result (suc n) l s =
    let a = lines_are_short label result n (λ i k. l i (omega arith)) (λ i k. s i (omega arith)) in
    let b = line_is_short n (label n) (result n) (l n (omega arith)) (s n (omega arith)) in
    rw length-append (omega arith)

-- ---- a sheet

ending_is_short : (b : Bool) → length (ending b) ≤ length holds_line
ending_is_short true = omega arith
ending_is_short false = omega arith

module _ (label : ℕ → List ℕ) (h : Sheet) (fine : Legal h) where
  small : (i : ℕ) → i < h.count → Small (result_of passes h i)
  small i l e = omega (arith, bound_in_range passes passes_local h i e, fine.rows i l)

  board_is_short : ((i : ℕ) → i < h.count → length (label i) ≤ longest_label) → length (board label h) ≤ longest_text
  unfolding board longest_text
  board_is_short l =
      let few : sum h.count longest_line ≤ sum most_rows longest_line = sum_grows h.count most_rows longest_line fine.at_most_rows in
      rw length-append (omega (arith, lines_are_short label (result_of passes h) h.count l small, ending_is_short (holds passes h)))

-- the labels of a sheet that was read
rows_of : (s : List ℕ) → (reading s).0 ≡ accepted → rows_read (sheet s 0) ≡ (reading s).1.count
rows_of s e = let (h, n, q) = accepted_read s e in rw q

own_label_is_short : (s : List ℕ) → (reading s).0 ≡ accepted → (i : ℕ) → i < (reading s).1.count → length (own_label s i) ≤ longest_label
unfolding own_label
own_label_is_short s e i l = rw length-take (omega (arith, (label_of_row s i (rw (rows_of s e) l)).short))

no_verdict_is_short : (k p : ℕ) → length (no_verdict k p) ≤ longest_text
unfolding no_verdict refused_by
no_verdict_is_short k p = simp length-append (omega (arith, decimal_is_short k, decimal_is_short p, limits))

-- the text of any bytes is no longer than the longest
pub verdict_is_short : (s : List ℕ) → length (verdict_text s) ≤ longest_text
verdict_is_short s =
    by_outcome s
    (λ e. rw (accepted_prints_its_rows s e) (board_is_short (own_label s) (reading s).1 (legal_is (reading s).1 (accepted_is_legal s e).0) (own_label_is_short s e)))
    (λ k p e. rw (refused_prints_one_line s k p e) (no_verdict_is_short k p))

-- which is 1,084 bytes at these limits
pub longest_is_1084 : longest_text ≡ 1084
unfolding longest_text longest_line decimal digits sum
longest_is_1084 = refl

pub longest_fits : longest_text ≤ text_size
longest_fits = omega (arith, longest_is_1084)

-- ---- whole in a buffer of the size that the programs lend

pub verdict_is_whole : (s o : List ℕ) → text_size ≤ length o → written (verdict_text s) o ≡ (verdict_text s ++ drop (length (verdict_text s)) o, length (verdict_text s))
verdict_is_whole s o room = whole_text (verdict_text s) o (omega (arith, verdict_is_short s, longest_fits))

pub reference_is_short : length reference_text ≤ text_size
reference_is_short = rw reference_is (omega arith)

pub reference_is_whole : (o : List ℕ) → text_size ≤ length o → written reference_text o ≡ (reference_text ++ drop (length reference_text) o, length reference_text)
reference_is_whole o room = whole_text reference_text o (omega (arith, reference_is_short))
