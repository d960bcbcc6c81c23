-- A text as long as the longest: that of thirty-two rows with the longest labels, each of which is bounded by the largest separation. Assumes nothing.
use Rattle.basis.specs.Prelude.{ℕ, zero, suc, ◌+◌, ◌*◌, ◌-◌, ◌≤◌, ◌<◌, min, ◌≡◌, refl, ap, ap₂, ◌∙◌, true, List, arith, mul-le-mul, length, replicate, length-append, length-replicate, lt-ltb}
use Rattle.dashboard.proofs.Names.{most_processors, most_rows, longest_label, most_separation, sum, all_of, sum_le, sum_most, no_row, row_at, Sheet, q, X, x, W, duration_of, amount_of, amounts, passes, bound, bounds, result_of, holds, Reached, smallest_is_bound, passing_is_less, passes_local, row, sheet_of, result_words, line_start, line, lines, board, longest_line, longest_text}
use Rattle.std.proofs.lemmas.List.{get_or_append_left, get_or-replicate}
use Rattle.sheet.specs.Values.{no_rows}
use Rattle.sheet.specs.declared.row.Row.{Row}
use Rattle.bound.specs.Quantities.{slots}

-- one thread that runs from one release to the next
abbrev always : Row
always = row 1 most_separation most_separation most_separation

-- as many of them as a sheet may have, on all processors, with labels of sixteen letters
abbrev pub full_sheet : Sheet
full_sheet = sheet_of most_processors (replicate most_rows always)

abbrev pub long_label : ℕ → List ℕ
long_label i = replicate longest_label 0x61

-- ---- each of them is bounded by its budget

row_is : (i : ℕ) → i < most_rows → row_at full_sheet i ≡ always
row_is i l = get_or_append_left (replicate most_rows always) (no_rows (most_rows - most_rows)) no_row i (omega (arith, length-replicate most_rows always)) ∙ get_or-replicate most_rows i always no_row l

module _ (k : ℕ) (l : k < most_rows) where
  -- each of the others fills one processor of the slot that row k waits
  one : (i : ℕ) → i < k → (amount_of full_sheet (bounds (result_of passes full_sheet)) k (slots most_separation) i).0 ≤ 1
  unfolding amount_of duration_of X
  one i c =
      rw (row_is k l, row_is i (omega arith))
      (mul-le-mul {n₁ = min (W always (x always (bounds (result_of passes full_sheet) i) (slots most_separation))).0 1} {m₁ = min 1 (q full_sheet k)} {n₂ = 1} {m₂ = 1}
      (omega arith) (omega arith))

  few : (amounts full_sheet (bounds (result_of passes full_sheet)) k (slots most_separation) k).0 ≤ k
  unfolding amounts
  few =
      let ones = sum_le k (λ i. (amount_of full_sheet (bounds (result_of passes full_sheet)) k (slots most_separation) i).0) (λ i. 1) one in
      omega (arith, sum_most k 1 (λ i. 1) (λ i. omega arith))

  right_side : (X full_sheet k (slots most_separation)).0 * q full_sheet k ≡ most_processors
  unfolding X q
  right_side = rw (row_is k l) (omega arith)

  passes_at_once : passes full_sheet (bounds (result_of passes full_sheet)) k (slots most_separation) ≡ true
  passes_at_once =
      passing_is_less full_sheet (bounds (result_of passes full_sheet)) k (slots most_separation)
      ∙ lt-ltb (amounts full_sheet (bounds (result_of passes full_sheet)) k (slots most_separation) k).0 ((X full_sheet k (slots most_separation)).0 * q full_sheet k)
      (rw right_side (omega (arith, few)))

  bounded_at_once : Reached passes full_sheet k → result_of passes full_sheet k ≡ bound most_separation
  bounded_at_once e =
      smallest_is_bound passes passes_local full_sheet k most_separation e
      (rw (row_is k l) (record { low = omega arith; high = omega arith; holds = passes_at_once; first = λ j a b. absurd (omega arith) }))

all_bounded : (k : ℕ) → k ≤ most_rows → Reached passes full_sheet k
unfolding all_of
all_bounded zero l = refl
all_bounded (suc k) l =
    let e : Reached passes full_sheet k = all_bounded k (omega arith) in
    let f : result_of passes full_sheet k ≡ bound most_separation = bounded_at_once k (omega arith) e in
    rw (e, f) refl

-- ---- so its text is the longest

line_is : (i : ℕ) → i < most_rows → length (line i (long_label i) (result_of passes full_sheet i)) ≡ longest_line i
unfolding line line_start result_words longest_line
line_is i l = rw (bounded_at_once i l (all_bounded i (omega arith))) (simp (length-append, length-replicate) (omega arith))

lines_are : (n : ℕ) → n ≤ most_rows → length (lines long_label (result_of passes full_sheet) n) ≡ sum n longest_line
unfolding lines sum
lines_are zero l = refl
lines_are (suc n) l = length-append (lines long_label (result_of passes full_sheet) n) _ ∙ ap₂ ◌+◌ (lines_are n (omega arith)) (line_is n (omega arith))

pub some_text_is_longest : length (board long_label full_sheet) ≡ longest_text
unfolding board longest_text holds
some_text_is_longest = rw (all_bounded most_rows (omega arith)) (length-append (lines long_label (result_of passes full_sheet) most_rows) _ ∙ ap (λ (n : ℕ). n + 6) (lines_are most_rows (omega arith)))
