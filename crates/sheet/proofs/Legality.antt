-- A legal sheet is one whose every number is in its range. Assumes nothing.
use Rattle.basis.specs.Prelude.{ℕ, ◌<◌, ◌≡◌, true}
use Rattle.sheet.proofs.Names.{most_processors, most_rows, all_of, within, both_left, both_right, both_true, at_least, at_most, within_true, all_at, all_true, row_at, legal_row, legal_at, legal, LegalRow, Legal, Row, Sheet}

legal_row_is : (m : ℕ) (row : Row) → legal_row m row ≡ true → LegalRow m row
unfolding legal_row
legal_row_is m row e = search (both_left, both_right, at_least, at_most)

legal_row_says : (m : ℕ) (row : Row) → LegalRow m row → legal_row m row ≡ true
unfolding legal_row
legal_row_says m row r = search (both_true, within_true)

-- a legal sheet is in the ranges
pub legal_is : (h : Sheet) → legal h ≡ true → Legal h
unfolding legal legal_at
legal_is h e =
    let all = both_right (within 1 most_rows h.count) (all_of h.count (legal_at h)) (both_right (within 1 most_processors h.processors) _ e) in
    let rows : (i : ℕ) → i < h.count → LegalRow h.processors (row_at h i) = λ i b. legal_row_is h.processors (row_at h i) (all_at h.count (legal_at h) all i b) in
    search (both_left, both_right, at_least, at_most)

-- and a sheet in the ranges is legal
pub legal_says : (h : Sheet) → Legal h → legal h ≡ true
unfolding legal legal_at
legal_says h r =
    let rows = all_true h.count (legal_at h) (λ i l. legal_row_says h.processors (row_at h i) (r.rows i l)) in
    search (both_true, within_true)
