-- What each line's function says, from what its calls say. Assumes nothing.
use Rattle.basis.specs.Prelude.{ℕ, ◌+◌, ◌≤◌, ◌<◌, ◌≡◌, refl, sym, ap, ◌∙◌, List, [], ◌∷◌, ◌++◌, append-nil, append_assoc, add-one, length, get_or, take, take-suc, take_all}
use Rattle.watch.proofs.Names.{decimal, Page, said, written, newline, space, sheet_word, scenario_word, slots_word, codes_text, end_line, file_name, refused_by, refused_file, two_said, three_said, four_said, said_is_written, File}
use Rattle.watch.specs.declared.ends.File.TheVariants.{Sheet, Scenario}

-- ---- the codes of a slot

-- those of two lists, one after the other
pub codes_append : (x y : List ℕ) → codes_text (x ++ y) ≡ codes_text x ++ codes_text y
unfolding codes_text
codes_append [] y = refl
codes_append (c ∷ x) y = ap (λ (t : List ℕ). (space ++ decimal c) ++ t) (codes_append x y) ∙ sym (append_assoc (space ++ decimal c) (codes_text x) (codes_text y))

-- one code more
codes_more : (codes : List ℕ) (i : ℕ) → i < length codes → codes_text (take (i + 1) codes) ≡ codes_text (take i codes) ++ (space ++ decimal (get_or codes i 0))
unfolding codes_text
codes_more codes i h =
    rw (add-one, take-suc codes i 0) (codes_append (take i codes) (get_or codes i 0 ∷ []) ∙ ap (λ (t : List ℕ). codes_text (take i codes) ++ t) (append-nil (space ++ decimal (get_or codes i 0))))

-- the loop over them
pub code_said : (p q r : Page) (codes : List ℕ) (i : ℕ) → i < length codes → q ≡ said p (codes_text (take i codes)) → r ≡ said q (space ++ decimal (get_or codes i 0)) → r ≡ said p (codes_text (take (i + 1) codes))
code_said p q r codes i h e f = rw (codes_more codes i h) (two_said p q r _ _ e f)

pub codes_said : (p q : Page) (codes : List ℕ) (i : ℕ) → length codes ≤ i → q ≡ said p (codes_text (take i codes)) → q ≡ said p (codes_text codes)
codes_said p q codes i h e = e ∙ ap (λ (x : List ℕ). said p (codes_text x)) (take_all i codes h)

-- ---- the name of a file

module _ (p q : Page) (file : File) where
  pub sheet_said : file ≡ Sheet → q ≡ said p sheet_word → q ≡ said p (file_name file)
  unfolding file_name
  sheet_said h e = rw h e

  pub scenario_said : file ≡ Scenario → q ≡ said p scenario_word → q ≡ said p (file_name file)
  unfolding file_name
  scenario_said h e = rw h e

-- ---- lines that stand alone

pub end_written : (buffer : List ℕ) (n : ℕ) (p₁ p₂ p₃ : Page) → p₁ ≡ said (buffer, 0) slots_word → p₂ ≡ said p₁ (decimal n) → p₃ ≡ said p₂ newline → p₃ ≡ written (end_line n) buffer
unfolding end_line
end_written buffer n p₁ p₂ p₃ e f g = said_is_written p₃ _ buffer (three_said (buffer, 0) p₁ p₂ p₃ slots_word (decimal n) newline e f g)

pub refused_written : (buffer : List ℕ) (file : File) (number place : ℕ) (p₁ p₂ p₃ p₄ : Page)
    → p₁ ≡ said (buffer, 0) (refused_by number place) → p₂ ≡ said p₁ space → p₃ ≡ said p₂ (file_name file) → p₄ ≡ said p₃ newline → p₄ ≡ written (refused_file file number place) buffer
unfolding refused_file
refused_written buffer file number place p₁ p₂ p₃ p₄ e f g h =
    said_is_written p₄ _ buffer (four_said (buffer, 0) p₁ p₂ p₃ p₄ (refused_by number place) space (file_name file) newline e f g h)
