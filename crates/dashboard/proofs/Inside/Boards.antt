-- What each function says, from what its calls say. Assumes nothing.
use Rattle.basis.specs.Prelude.{ℕ, zero, suc, ◌+◌, ◌-◌, ◌*◌, ◌^◌, ◌≤◌, ◌<◌, ◌≡◌, refl, ap, ap₂, Bool, List, ◌++◌, add-one, add-sub_cancel_left, arith, length, ne_eqb, take, drop, w64, Fits}
use Rattle.dashboard.proofs.Names.{number_at, Sheet, label_in, part_in, passes, Word, result_of, holds, word_at, decimal, bound_word, none_word, unreached_word, result_words, line, ending, own_label, LabelsLie, lines, board, Page, said, two_said}
use Rattle.reader.specs.declared.row.Part.{Part}
use Rattle.reader.proofs.RowLabels.{label_in_bytes}

-- ---- a line

-- the label that a list shows in the bytes
module _ (s parts : List ℕ) (n i : ℕ) (lie : LabelsLie s parts n) (l : i < n) where
  pub label_lies_lem : part_in parts i ≡ label_in s i
  label_lies_lem = lie i l

  starts : number_at parts (i * 2) ≡ (label_in s i).start
  unfolding part_in
  starts = ap (λ (p : Part). p.start) label_lies_lem

  lasts : number_at parts (i * 2 + 1) ≡ (label_in s i).long
  unfolding part_in
  lasts = ap (λ (p : Part). p.long) label_lies_lem

  pub label_inside : number_at parts (i * 2) + number_at parts (i * 2 + 1) ≤ length s
  label_inside = omega (arith, starts, lasts, label_in_bytes s i)

  pub label_ends : length s < 2 ^ 64 → Fits w64 (number_at parts (i * 2) + number_at parts (i * 2 + 1))
  label_ends b = record { fits = omega (arith, label_inside) }

  pub label_cut : take (number_at parts (i * 2) + number_at parts (i * 2 + 1) - number_at parts (i * 2)) (drop (number_at parts (i * 2)) s) ≡ own_label s i
  unfolding own_label
  label_cut = rw add-sub_cancel_left (ap₂ (λ (a b : ℕ). take b (drop a s)) starts lasts)

module _ (p q : Page) (results : List ℕ) (i : ℕ) where
  pub unreached_said : number_at results (i * 2) ≡ 0 → q ≡ said p unreached_word → q ≡ said p (result_words (word_at results i))
  unfolding result_words word_at
  unreached_said h e = rw h e

  pub bound_said : (o : Page) → number_at results (i * 2) ≡ 1 → o ≡ said p bound_word → q ≡ said o (decimal (number_at results (i * 2 + 1))) → q ≡ said p (result_words (word_at results i))
  unfolding result_words word_at
  bound_said o h e f = rw h (two_said p o q bound_word (decimal (number_at results (i * 2 + 1))) e f)

  pub none_said : (number_at results (i * 2) ≡ 0 → ⊥) → (number_at results (i * 2) ≡ 1 → ⊥) → q ≡ said p none_word → q ≡ said p (result_words (word_at results i))
  unfolding result_words word_at
  none_said a b e = rw (ne_eqb (number_at results (i * 2)) 0 a, ne_eqb (number_at results (i * 2)) 1 b) e

-- ---- the lines of a sheet

module _ (p : Page) (label : ℕ → List ℕ) (result : ℕ → Word) where
  pub one_line : (q r : Page) (i : ℕ) → q ≡ said p (lines label result i) → r ≡ said q (line i (label i) (result i)) → r ≡ said p (lines label result (i + 1))
  unfolding lines
  one_line q r i e f = rw add-one (two_said p q r (lines label result i) _ e f)

-- results that agree give the same lines
lines_same : (label : ℕ → List ℕ) (f g : ℕ → Word) (n : ℕ) → ((i : ℕ) → i < n → f i ≡ g i) → lines label f n ≡ lines label g n
unfolding lines
lines_same label f g zero h = refl
lines_same label f g (suc n) h =
    ap₂ (λ (x : List ℕ) (w : Word). x ++ line n (label n) w) (lines_same label f g n (λ i l. h i (omega arith))) (h n (omega arith))

-- and so the text of a sheet
pub board_is : (h : Sheet) (label : ℕ → List ℕ) (f : ℕ → Word) (n : ℕ) (b : Bool) → n ≡ h.count → ((i : ℕ) → i < h.count → f i ≡ result_of passes h i) → b ≡ holds passes h
    → lines label f n ++ ending b ≡ board label h
unfolding board
board_is h label f n b en ew eb = rw (en, eb, lines_same label f (result_of passes h) h.count ew)
