-- A list of results: what stands at its places, how it is put together, cleared past the rows and read back, and what `bounds_on` makes of it at each way out. Assumes nothing.
use Rattle.basis.specs.Prelude.{ℕ, ◌+◌, ◌*◌, ◌≤◌, ◌<◌, ◌≡◌, refl, sym, ap, ◌∙◌, Bool, true, false, List, arith, le_refl, length, get_or, set, replicate, length-set, length-replicate, ext_get_or, eqb, le-leb, lt-leb, Fits, w64}
use Rattle.bound.proofs.Names.{most_rows, pick, upto, accepted, refused, upto_below, upto_past, length_upto, first_cell, second_cell, pair_zero, get_d_all, legal, Legal, Sheet, filled, sheet_in, cleared_cell, legal_is, Test, passes, Word, bound, none, unreached, result_of, all_unreached, holds, bounds_by, word_number, bound_number, results_long, result_cell, results_on, bounds_on, words, put_result, word_at}
use Rattle.sheet.proofs.Inside.ClearedLists.{cleared_is_filled}

-- ---- the words of a sheet

module _ (test : Test) (h : Sheet) (k : ℕ) where
  pub word_there : Legal h → k < h.count → get_or (upto h.count (result_of test h) all_unreached) k unreached ≡ result_of test h k
  word_there l b = upto_below h.count (result_of test h) all_unreached unreached k b (omega (arith, length-replicate most_rows unreached))

  pub word_past : h.count ≤ k → get_or (upto h.count (result_of test h) all_unreached) k unreached ≡ unreached
  word_past b = upto_past h.count (result_of test h) all_unreached unreached k b ∙ get_d_all most_rows k unreached

pub words_long : (h : Sheet) → length (words h) ≡ most_rows
words_long h = length_upto h.count (result_of passes h) all_unreached ∙ length-replicate most_rows unreached

-- ---- the numbers of a list of results

-- past the rows they are zero
pub result_cell_past : (h : Sheet) (i : ℕ) → results_long h.count ≤ i → result_cell (words h) i ≡ 0
unfolding result_cell
result_cell_past h = pair_zero _ _ h.count (λ k b. ap word_number (word_past passes h k b)) (λ k b. ap bound_number (word_past passes h k b))

-- `put_result`
pub second_place_there : (l : List ℕ) (k v : ℕ) → results_long (k + 1) ≤ length l → k * 2 + 1 < length (set l (k * 2) v)
second_place_there l k v r = simp length-set (omega arith)

pub result_put : (l : List ℕ) (k a b : ℕ) (w : Word) → a ≡ word_number w → b ≡ bound_number w → set (set l (k * 2) a) (k * 2 + 1) b ≡ put_result l k w
unfolding put_result
result_put l k a b w ea eb = rw (ea, eb)

pub length_put : (l : List ℕ) (k : ℕ) (w : Word) → length (put_result l k w) ≡ length l
unfolding put_result
length_put l k w = simp length-set refl

-- ---- read back

back : (w : Word) (a b : ℕ) → a ≡ word_number w → b ≡ bound_number w → pick (eqb a 0) unreached (pick (eqb a 1) (bound b) none) ≡ w
back (bound r) a b ea eb = rw (ea, eb)
back none a b ea eb = rw ea
back unreached a b ea eb = rw ea

-- a word that is put into a list
pub word_comes_back : (ws : List Word) (rs l : List ℕ) (n k : ℕ) → rs ≡ upto n (result_cell ws) l → n ≤ length l → k * 2 + 1 < n → word_at rs k ≡ get_or ws k unreached
unfolding word_at result_cell
word_comes_back ws rs l n k e r h =
    rw e
    (back (get_or ws k unreached) _ _ (upto_below n (result_cell ws) l 0 (k * 2) (omega arith) r ∙ first_cell _ _ k) (upto_below n (result_cell ws) l 0 (k * 2 + 1) h r ∙ second_cell _ _ k))

-- the words that are put into a list with room for every row come back
pub words_come_back : (ws : List Word) (l : List ℕ) → length ws ≡ most_rows → results_long most_rows ≤ length l → upto most_rows (word_at (filled (result_cell ws) l)) all_unreached ≡ ws
unfolding filled
words_come_back ws l long room =
    let f : ℕ → Word = word_at (filled (result_cell ws) l) in
    let same_length : length (upto most_rows f all_unreached) ≡ most_rows = length_upto most_rows f all_unreached ∙ length-replicate most_rows unreached in
    ext_get_or unreached (upto most_rows f all_unreached) ws (same_length ∙ sym long)
    (λ i b. upto_below most_rows f all_unreached unreached i (omega arith) (le_refl most_rows) ∙ word_comes_back ws _ l (length l) i refl (le_refl (length l)) (omega arith))

-- and of zeros no row is reached
pub zeros_are_unreached : upto most_rows (word_at (replicate (results_long most_rows) 0)) all_unreached ≡ all_unreached
unfolding upto word_at
zeros_are_unreached = refl

-- ---- `bounds_on`

module _ (l b : List ℕ) where
  -- the answer where the sheet is legal and there is room
  pub legal_is_put : legal (sheet_in l) ≡ true → results_long (sheet_in l).count ≤ length b → bounds_on l b ≡ (accepted, (holds passes (sheet_in l), filled (result_cell (words (sheet_in l))) b))
  unfolding bounds_on results_on bounds_by
  legal_is_put e r = rw (e, le-leb (results_long (sheet_in l).count) (length b) r)

  -- refused, it does not hold and the list is as it was
  pub not_legal_is_kept : legal (sheet_in l) ≡ false → bounds_on l b ≡ (refused 10 0, (false, b))
  unfolding bounds_on results_on bounds_by
  not_legal_is_kept e = rw e

  pub no_room_is_kept : legal (sheet_in l) ≡ true → length b < results_long (sheet_in l).count → bounds_on l b ≡ (refused 15 0, (false, b))
  unfolding bounds_on results_on bounds_by
  no_room_is_kept e r = rw (e, lt-leb (results_long (sheet_in l).count) (length b) r)

  module _ (fine : Bool) (ef : fine ≡ legal (sheet_in l)) where
    pub not_legal_told : fine ≡ false → (refused 10 0, (false, b)) ≡ bounds_on l b
    not_legal_told t = sym (not_legal_is_kept (sym ef ∙ t))

    module _ (n : ℕ) (en : n ≡ (sheet_in l).count) (legal_so : fine ≡ true) where
      pub results_fit : Fits w64 (n * 2)
      results_fit = record { fits = omega (arith, (legal_is (sheet_in l) (sym ef ∙ legal_so)).at_most_rows) }

      pub no_room_told : length b < n * 2 → (refused 15 0, (false, b)) ≡ bounds_on l b
      no_room_told r = sym (no_room_is_kept (sym ef ∙ legal_so) (rw en at r))

      pub results_told : (t : Bool) (m d : List ℕ) → t ≡ holds passes (sheet_in l) → m ≡ upto (n * 2) (result_cell (words (sheet_in l))) b → d ≡ filled (cleared_cell (n * 2) m) m → n * 2 ≤ length b
          → (accepted, (t, d)) ≡ bounds_on l b
      results_told t m d et em ed r =
          let e : d ≡ filled (result_cell (words (sheet_in l))) b = ed ∙ cleared_is_filled (result_cell (words (sheet_in l))) (n * 2) b m em r (λ i g. result_cell_past (sheet_in l) i (rw en at g)) in
          rw (et, e) (sym (legal_is_put (sym ef ∙ legal_so) (rw en at r)))
