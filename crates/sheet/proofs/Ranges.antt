-- The check of the sheet in a list: a turn over its rows, and what each way out says. Assumes nothing.
use Rattle.basis.specs.Prelude.{ℕ, ◌+◌, ◌-◌, ◌*◌, ◌≤◌, ◌<◌, ◌≡◌, refl, sym, ap, ap₂, ◌∙◌, Bool, true, false, List, length, get_or-eq_default, arith, ⊎_elim}
use Rattle.sheet.proofs.Names.{most_processors, most_rows, both, within, all_of, all_one_more, all_fails, both_left, both_right, lt_or_le, row_at, legal_row, legal_at, legal, Row, Sheet, number_at, row_in, sheet_in, sheet_long, legal_rows}
use Rattle.sheet.proofs.Legality.{legal_is}
use Rattle.sheet.proofs.Inside.ListRows.{row_in_sheet}

-- `rows_are_legal`
module _ (m : ℕ) (h : Sheet) (i : ℕ) (so_far : true ≡ all_of i (legal_rows m h)) where
  pub rows_legal_more : (row : Row) (b : Bool) → row ≡ row_at h i → b ≡ legal_row m row → b ≡ true → true ≡ all_of (i + 1) (legal_rows m h)
  unfolding legal_rows
  rows_legal_more row b er eb e = sym (all_one_more i (legal_rows m h) ∙ rw (sym so_far) (ap (legal_row m) (sym er) ∙ sym eb ∙ e))

  pub rows_legal_fails : (n : ℕ) (row : Row) (b : Bool) → i < n → row ≡ row_at h i → b ≡ legal_row m row → b ≡ false → false ≡ all_of n (legal_rows m h)
  unfolding legal_rows
  rows_legal_fails n row b l er eb e = sym (all_fails n (legal_rows m h) i l (ap (legal_row m) (sym er) ∙ sym eb ∙ e))

-- a test that cannot hold is false
pub not_so : (b : Bool) → (b ≡ true → ⊥) → b ≡ false
not_so true f = absurd (f refl)
not_so false f = refl

-- A sheet's list that ends before its last row is refused: the budget that it lacks is zero.
pub missing_rows_are_refused : (l : List ℕ) → length l < sheet_long (number_at l 1) → legal (sheet_in l) ≡ false
unfolding sheet_in row_in
missing_rows_are_refused l h = not_so (legal (sheet_in l)) (λ e.
    let r = legal_is (sheet_in l) e in
    let k : ℕ = number_at l 1 - 1 in
    let z = get_or-eq_default l 0 {n = k * 4 + 5} (omega arith) in
    omega (arith, (r.rows k (omega arith)).some_budget, ap (λ (row : Row). row.budget) (row_in_sheet l k (omega arith)), z))

-- A list of no number or of one hands over no sheet.
pub short_lists_are_refused : (l : List ℕ) → length l < 2 → legal (sheet_in l) ≡ false
short_lists_are_refused l h = missing_rows_are_refused l (omega arith)

-- so that the list of a legal sheet has room for its rows
pub legal_sheet_long : (l : List ℕ) (n : ℕ) → legal (sheet_in l) ≡ true → n ≡ (sheet_in l).count → sheet_long n ≤ length l
unfolding sheet_in
legal_sheet_long l n e en =
    ⊎_elim (λ a. let f = missing_rows_are_refused l (omega arith) in let z : ◌≡◌ {A = ℕ} 0 1 = cc in absurd (omega arith)) (λ a. a) (lt_or_le (length l) (sheet_long n))

-- `is_legal`
module _ (l : List ℕ) (m n : ℕ) (em : m ≡ (sheet_in l).processors) (en : n ≡ (sheet_in l).count) (head : Bool) (eh : head ≡ both (within 1 most_processors m) (within 1 most_rows n)) where
  pub head_fails : head ≡ false → false ≡ legal (sheet_in l)
  unfolding legal
  head_fails f = split (within 1 most_processors (sheet_in l).processors) (within 1 most_rows (sheet_in l).count) (all_of (sheet_in l).count (legal_at (sheet_in l)))
      (sym f ∙ eh ∙ ap₂ (λ (a b : ℕ). both (within 1 most_processors a) (within 1 most_rows b)) em en)
    where
      split : (a b c : Bool) → false ≡ both a b → false ≡ both a (both b c)
      split true b c e = ap (λ (x : Bool). both x c) e
      split false b c e = refl

  pub ends_before_rows : length l < sheet_long n → false ≡ legal (sheet_in l)
  unfolding sheet_in
  ends_before_rows a = sym (missing_rows_are_refused l (omega (arith, en)))

  pub rows_decide : head ≡ true → (r : Bool) → r ≡ all_of n (legal_rows m (sheet_in l)) → r ≡ legal (sheet_in l)
  unfolding legal legal_at legal_rows sheet_in
  rows_decide t r e =
      let a = both_left (within 1 most_processors m) (within 1 most_rows n) (sym eh ∙ t) in
      let b = both_right (within 1 most_processors m) (within 1 most_rows n) (sym eh ∙ t) in
      simp (sym em, sym en, a, b) e
