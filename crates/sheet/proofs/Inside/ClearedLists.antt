-- A list that is made zero from a place on. Assumes nothing.
use Rattle.basis.proofs.Inside.Upto.{upto_front, upto_agree}
use Rattle.sheet.proofs.Inside.Cells.{past_rows}
use Rattle.basis.specs.Prelude.{ℕ, ◌++◌, take, drop, min, ◌-◌, ◌≤◌, ◌<◌, ◌≡◌, refl, sym, ap, ◌∙◌, List, ⊎_elim, arith, rules, length, length-take-le, get_or, get_or-append, lt-ltb, le-ltb}
use Rattle.std.proofs.lemmas.List.{places, get_or-append_right}
use borrow.Rule.Slice.PartMut.{put_mid}
use Rattle.sheet.proofs.Names.{Sheet, most_rows, sheet_cell, sheet_long, upto, upto_below, length_upto, get_d_all, lt_or_le, filled, cleared_cell}
use Rattle.sheet.proofs.Inside.FilledLists.{filled_is, zeros, zeros_long}

-- `clear_from`: past the end of the list nothing changes, and the rest of it made zero is the list made zero from the place on
module _ (from : ℕ) (l : List ℕ) where
  pub none_cleared : length l ≤ from → l ≡ filled (cleared_cell from l) l
  unfolding cleared_cell
  none_cleared b = filled_is (cleared_cell from l) l l refl (λ i h. rw (lt-ltb i from (omega arith)))

  pub rest_cleared : (ys : List ℕ) → from < length l → ys ≡ zeros (length l - from) → put_mid from (length l - from) l ys ≡ filled (cleared_cell from l) l
  unfolding cleared_cell
  rest_cleared ys b e =
      let long : length ys ≡ length l - from = ap length e ∙ zeros_long (length l - from) in
      filled_is (cleared_cell from l) l (put_mid from (length l - from) l ys) (search (rules, places)) (λ i h. ⊎_elim
      (λ a. rw (lt-ltb i from a) (search (rules, places)))
      (λ a. rw (le-ltb i from a) (get_or-append_right _ _ from i 0 (length-take-le from l (omega arith)) a ∙ get_or-append ys _ 0 (i - from) (omega arith)
      ∙ ap (λ (zs : List ℕ). get_or zs (i - from) 0) e ∙ get_d_all (length l - from) (i - from) 0)) (lt_or_le i from))

-- what was filled as far as the place, and is zero from there on, is filled
pub cleared_is_filled : (f : ℕ → ℕ) (from : ℕ) (l m : List ℕ) → m ≡ upto from f l → from ≤ length l → ((i : ℕ) → from ≤ i → f i ≡ 0) → filled (cleared_cell from m) m ≡ filled f l
unfolding filled cleared_cell
cleared_is_filled f from l m em room past =
    let long : length m ≡ length l = ap length em ∙ length_upto from f l in
    filled_is f l (filled (cleared_cell from m) m) (length_upto (length m) (cleared_cell from m) m ∙ long)
    (λ i b. upto_below (length m) (cleared_cell from m) m 0 i (omega arith) (omega arith)
    ∙ ⊎_elim (λ a. rw (lt-ltb i from a, em) (upto_below from f l 0 i a room)) (λ a. rw (le-ltb i from a) (sym (past i a))) (lt_or_le i from))

-- `put_sheet`: the front of a sheet's numbers is copied into a list, and the rest of the list is made zero
pub sheet_copied : (h : Sheet) (list cells : List ℕ) (n : ℕ) → cells ≡ upto (sheet_long most_rows) (sheet_cell h) (zeros (sheet_long most_rows)) → n ≡ min (length list) (sheet_long most_rows) → length h.rows ≡ most_rows
    → filled (cleared_cell n (take n cells ++ drop n list)) (take n cells ++ drop n list) ≡ filled (sheet_cell h) list
unfolding filled
sheet_copied h list cells n ec en long =
    let size : length cells ≡ sheet_long most_rows = ap length ec ∙ length_upto (sheet_long most_rows) (sheet_cell h) (zeros (sheet_long most_rows)) ∙ zeros_long (sheet_long most_rows) in
    let front : take n cells ++ drop n list ≡ upto n (sheet_cell h) list =
    upto_front n cells list (omega arith) (omega arith)
    ∙ upto_agree n (λ i. get_or cells i 0) (sheet_cell h) list (λ i b. rw ec (upto_below (sheet_long most_rows) (sheet_cell h) (zeros (sheet_long most_rows)) 0 i (omega arith) (omega (arith, zeros_long (sheet_long most_rows))))) in
    ⊎_elim
    (λ a. sym (none_cleared n (take n cells ++ drop n list) (omega (arith, ap length front ∙ length_upto n (sheet_cell h) list)))
    ∙ front ∙ ap (λ (k : ℕ). upto k (sheet_cell h) list) (omega arith))
    (λ a. cleared_is_filled (sheet_cell h) n list (take n cells ++ drop n list) front (omega arith) (λ i g. sym (past_rows h i long (omega arith)))) (lt_or_le (length list) (sheet_long most_rows))
