-- The loop over the rows: what a row is judged by, what stands in the list of results, and the answer by value. Assumes nothing.
use Rattle.basis.specs.Prelude.{ℕ, suc, ◌+◌, ◌*◌, ◌≤◌, ◌<◌, ◌≡◌, refl, sym, ap, ◌∙◌, Bool, true, false, List, map, arith, length, get_or, set, replicate}
use Rattle.bound.proofs.Names.{most_rows, all_of, upto, Outcome, accepted, refused, all_at, upto_set, length_upto, pair_stored, second_read, map_set, legal, Legal, Sheet, filled, sheet_cell, sheet_in, sheet_long, legal_is, slots, passes, Word, unreached, word, is_bound, bound_by, bounds, bounded, result_of, all_unreached, holds, Answer, bounds_of, word_number, bound_number, results_long, result_cell, words, put_result, word_at, bounds_on, held_in, Lent, RowsAbove, SoFar, Ready, RowResult}
use Rattle.sheet.proofs.Ranges.{legal_sheet_long}
use Rattle.sheet.proofs.RoundTrip.{whole_sheet_comes_back}
use Rattle.bound.proofs.Durations.{number}
use Rattle.bound.proofs.Inside.Judging.{passes_local, bound_agrees, agree_self, result_where, bound_all}
use Rattle.bound.proofs.Meaning.{bound_in_range, bound_is_first}
use Rattle.bound.proofs.Answers.{legal_answer, refused_by_10}
use Rattle.bound.proofs.Lists.{word_there, words_long, length_put, words_come_back, zeros_are_unreached, legal_is_put, not_legal_is_kept}

-- ---- one row, by those above

module _ (h : Sheet) (rs : List ℕ) (k : ℕ) (reached : Bool) (above : RowsAbove h rs reached k) where
  module _ (yes : reached ≡ true) where
    all_bounded : (i : ℕ) → i < k → is_bound (result_of passes h i) ≡ true
    all_bounded = all_at k (bounded (result_of passes h)) (sym above.all ∙ yes)

    pub ready : Legal h → k < h.count → Ready h (held_in rs) k
    ready l below =
        record {
          legal = l;
          below = below;
          low = λ i b. omega (arith, bound_in_range passes passes_local h i (all_bounded i b), number (above.held i b));
          high = λ i b. omega (arith, bound_in_range passes passes_local h i (all_bounded i b), number (above.held i b));
          smallest = λ i b l low high.
              passes_local h h (held_in rs) (bounds (result_of passes h)) i (agree_self h (suc i)) (λ j c. above.held j (omega arith)) (slots l)
              ∙ bound_is_first passes passes_local h i (all_bounded i b) l low (omega (arith, number (above.held i b)));
        }

    pub judged_reached : (r : RowResult) → word r ≡ bound_by passes h (held_in rs) k → word r ≡ result_of passes h k
    judged_reached r e =
        e ∙ bound_agrees passes passes_local h h (held_in rs) (bounds (result_of passes h)) k (agree_self h (suc k)) above.held
        ∙ sym (result_where passes passes_local h k true (sym above.all ∙ yes))

  pub judged_unreached : reached ≡ false → unreached ≡ result_of passes h k
  judged_unreached not_yet = sym (result_where passes passes_local h k false (sym above.all ∙ not_yet))

-- ---- the loop

-- the lists of a legal sheet and of its results have room for its rows
pub lists_are_lent : (l b : List ℕ) (n : ℕ) → legal (sheet_in l) ≡ true → n ≡ (sheet_in l).count → results_long n ≤ length b → Lent l b
lists_are_lent l b n e en r = record { long_sheet = rw en at (legal_sheet_long l n e en); long_results = rw en at r }

-- no row is judged yet
pub so_far_none : (h : Sheet) (rs : List ℕ) → SoFar h rs rs true 0
unfolding upto all_of
so_far_none h rs = record { put = refl; all = refl }

module _ (h : Sheet) (lent rs : List ℕ) (reached : Bool) (k : ℕ) (so_far : SoFar h lent rs reached k) where
  pub so_far_long : length rs ≡ length lent
  so_far_long = ap length so_far.put ∙ length_upto (results_long k) (result_cell (words h)) lent

  -- one row more
  module _ (n : ℕ) (en : n ≡ h.count) (b : k < n) (l : Legal h) (r : RowResult) (er : word r ≡ result_of passes h k) where
    pub so_far_more : (m : List ℕ) (t : Bool) → m ≡ put_result rs k (word r) → t ≡ is_bound (word r) → SoFar h lent m t (k + 1)
    unfolding result_cell put_result
    so_far_more m t em et =
        let e : word r ≡ get_or (words h) k unreached = er ∙ sym (word_there passes h k l (omega arith)) in
        record { put = em ∙ pair_stored _ _ k rs lent so_far.put _ _ (ap word_number e) (ap bound_number e); all = et ∙ ap is_bound er ∙ bound_all passes passes_local h k }

  -- every row is judged
  module _ (n : ℕ) (en : n ≡ h.count) (a : k ≤ n) (b : n ≤ k) where
    pub holds_told : reached ≡ holds passes h
    unfolding holds
    holds_told = let e : k ≡ h.count = omega arith in rw e at so_far.all

    pub results_put : rs ≡ upto (results_long n) (result_cell (words h)) lent
    results_put = let e : k ≡ n = omega arith in rw e at so_far.put

-- what stands in the list of the rows above
pub rows_above : (l lent rs : List ℕ) (t : Bool) (k n : ℕ) → SoFar (sheet_in l) lent rs t k → Legal (sheet_in l) → Lent l rs → n ≡ (sheet_in l).count → k < n → RowsAbove (sheet_in l) rs t k
unfolding result_cell
rows_above l lent rs t k n so_far fine room en b =
    record {
      held = λ i m. ap slots
          (ap (λ (x : List ℕ). get_or x (i * 2 + 1) 0) so_far.put ∙ second_read _ _ i k lent m (omega (arith, so_far_long (sheet_in l) lent rs t k so_far))
          ∙ ap bound_number (word_there passes (sheet_in l) i fine (omega arith)));
      all = so_far.all;
    }

-- the lists have room after a result is put as before
pub still_lent : (l b m : List ℕ) (k : ℕ) (w : Word) → m ≡ put_result b k w → Lent l b → Lent l m
still_lent l b m k w e lent = record { long_sheet = lent.long_sheet; long_results = rw (ap length e ∙ length_put b k w) lent.long_results }

-- ---- by value

-- `rows_of`
module _ (l : List ℕ) (i : ℕ) (rs : List RowResult) (e : map word rs ≡ upto i (word_at l) all_unreached) where
  pub rows_more : (r : RowResult) → word r ≡ word_at l i → map word (set rs i r) ≡ upto (i + 1) (word_at l) all_unreached
  rows_more r er = map_set word rs i r ∙ upto_set i (word_at l) (map word rs) all_unreached (word r) e er

  pub rows_done : i ≤ most_rows → most_rows ≤ i → map word rs ≡ upto most_rows (word_at l) all_unreached
  rows_done a b = let f : i ≡ most_rows = omega arith in rw f at e

-- `bounds`: the sheet comes back from the list that it is put into, and its results from theirs
module _ (h : Sheet) (l₀ l rs : List ℕ) (put : l ≡ filled (sheet_cell h) l₀) (long : sheet_long most_rows ≤ length l₀) (rows : length h.rows ≡ most_rows) where
  list_is : sheet_in l ≡ h
  list_is = ap sheet_in put ∙ whole_sheet_comes_back h l₀ rows long

  abbrev zeros : List ℕ
  zeros = replicate (results_long most_rows) 0

  -- what stands in a list of results, by value
  abbrev by_value : Outcome × (Bool × List ℕ) → Answer
  by_value x = (x.0, x.1.0, upto most_rows (word_at x.1.1) all_unreached)

  pub answered : (o : Outcome) (t : Bool) (a : Answer) → (o, (t, rs)) ≡ bounds_on l (replicate (results_long most_rows) 0) → a ≡ (o, t, upto most_rows (word_at rs) all_unreached) → a ≡ bounds_of h
  answered o t a e ea = go (legal h) refl
    where
      go : (b : Bool) → legal h ≡ b → a ≡ bounds_of h
      go true f =
          let fine : legal (sheet_in l) ≡ true = ap legal list_is ∙ f in
          ea ∙ ap by_value (e ∙ legal_is_put l zeros fine (omega (arith, (legal_is (sheet_in l) fine).at_most_rows)))
          ∙ ap (λ (ws : List Word). (accepted, holds passes (sheet_in l), ws)) (words_come_back (words (sheet_in l)) zeros (words_long (sheet_in l)) (omega arith))
          ∙ ap (λ (x : Sheet). (accepted, holds passes x, words x)) list_is ∙ sym (legal_answer passes h f)
      go false f =
          ea ∙ ap by_value (e ∙ not_legal_is_kept l zeros (ap legal list_is ∙ f)) ∙ ap (λ (ws : List Word). (refused 10 0, false, ws)) zeros_are_unreached ∙ sym (refused_by_10 passes h f)

  -- and where the sheet is refused
  pub answered_no : (k p : ℕ) → (refused k p, (false, rs)) ≡ bounds_on l zeros → ◌≡◌ {A = Answer} (refused k p, false, all_unreached) (bounds_of h)
  answered_no k p e = go (legal h) refl
    where
      go : (b : Bool) → legal h ≡ b → ◌≡◌ {A = Answer} (refused k p, false, all_unreached) (bounds_of h)
      go true f =
          let fine : legal (sheet_in l) ≡ true = ap legal list_is ∙ f in
          let z : refused k p ≡ accepted = ap (λ (x : Outcome × (Bool × List ℕ)). x.0) (e ∙ legal_is_put l zeros fine (omega (arith, (legal_is (sheet_in l) fine).at_most_rows))) in
          cc
      go false f = ap (λ (x : Outcome × (Bool × List ℕ)). (x.0, false, all_unreached)) (e ∙ not_legal_is_kept l zeros (ap legal list_is ∙ f)) ∙ sym (refused_by_10 passes h f)
