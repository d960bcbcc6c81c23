-- The first rows, one by one: how many they are, what holds of each, and their bytes. Assumes nothing.
use Rattle.basis.specs.Prelude.{ℕ, zero, suc, ◌+◌, ◌<◌, ◌≡◌, refl, sym, ap, ◌∙◌, ⊎_elim, eq-or-lt_of_le, List, [], ◌∷◌, ◌++◌, append-nil, append_assoc, arith, add-one, length, length-append, get_or, get_or-append_seam, get_or-append, ext_get_or}
use Rattle.writer.proofs.Names.{Each, Entry, first_rows, entry_bytes, entries_bytes}

-- as many rows as there are
pub rows_count : (n : ℕ) (f : ℕ → Entry) → length (first_rows n f) ≡ n
unfolding first_rows
rows_count zero f = refl
rows_count (suc n) f = length-append (first_rows n f) (f n ∷ []) ∙ ap (λ (k : ℕ). k + 1) (rows_count n f) ∙ add-one n

-- each is at its place
pub row_first : (n : ℕ) (f : ℕ → Entry) (d : Entry) (k : ℕ) → k < n → get_or (first_rows n f) k d ≡ f k
unfolding first_rows
row_first zero f d k h = absurd (omega arith)
row_first (suc n) f d k h =
    ⊎_elim (λ e. ap (λ (j : ℕ). get_or (first_rows n f ++ (f n ∷ [])) j d) (e ∙ sym (rows_count n f)) ∙ get_or-append_seam (first_rows n f) (f n) [] d ∙ ap f (sym e))
    (λ l. get_or-append (first_rows n f) (f n ∷ []) d k (omega (arith, rows_count n f)) ∙ row_first n f d k l)
    (eq-or-lt_of_le {n = k} {m = n} (omega arith))

-- the rows of a list, one by one, are the list
pub rows_of_list : (es : List Entry) (n : ℕ) (f : ℕ → Entry) (d : Entry) → n ≡ length es → ((k : ℕ) → k < n → f k ≡ get_or es k d) → first_rows n f ≡ es
rows_of_list es n f d e h =
    ext_get_or d (first_rows n f) es (rows_count n f ∙ e) (λ k b. let l : k < n = omega (arith, rows_count n f) in row_first n f d k l ∙ h k l)

-- what holds of each is held by all
pub rows_each : (P : Entry → Type 0) (n : ℕ) (f : ℕ → Entry) → ((k : ℕ) → k < n → P (f k)) → Each P (first_rows n f)
unfolding first_rows
rows_each P zero f h = tt
rows_each P (suc n) f h = snoc (first_rows n f) (rows_each P n f (λ k b. h k (omega arith)))
  where
    snoc : (es : List Entry) → Each P es → Each P (es ++ (f n ∷ []))
    snoc [] all = (h n (omega arith), tt)
    snoc (e ∷ es) (g, gs) = (g, snoc es gs)

-- their bytes, one row more at a time
pub entries_both : (xs ys : List Entry) → entries_bytes (xs ++ ys) ≡ entries_bytes xs ++ entries_bytes ys
unfolding entries_bytes
entries_both [] ys = refl
entries_both (x ∷ xs) ys = ap (λ (l : List ℕ). entry_bytes x ++ l) (entries_both xs ys) ∙ sym (append_assoc (entry_bytes x) (entries_bytes xs) (entries_bytes ys))

pub rows_more : (k : ℕ) (f : ℕ → Entry) → entries_bytes (first_rows (k + 1) f) ≡ entries_bytes (first_rows k f) ++ entry_bytes (f k)
unfolding first_rows entries_bytes
rows_more k f =
    ap (λ (j : ℕ). entries_bytes (first_rows j f)) (add-one k) ∙ entries_both (first_rows k f) (f k ∷ [])
    ∙ ap (λ (l : List ℕ). entries_bytes (first_rows k f) ++ l) (append-nil (entry_bytes (f k)))
