-- Laws of the answers: a word stands for one result of the code, two answers that a promise allows are equal, and what a refusal says. Assumes nothing.
use Rattle.std.specs.Prelude.{Result, Ok, Err}
use Rattle.basis.specs.Prelude.{ℕ, suc, ◌≤◌, ◌<◌, ◌≡◌, refl, sym, ap, ◌∙◌, Bool, true, false, List, arith, length, get_or}
use Rattle.bound.proofs.Names.{most_rows, upto, Outcome, accepted, refused, outcome, or_else, room_for, handed, refused_by, refused_by_one_to_one, handed_found, legal, filled, sheet_in, Sheet, legal_is, Test, passes, Word, bound, none, unreached, word, result_of, all_unreached, holds, Answer, answer, not_legal, bounds_by, bounds_of, results_long, result_cell, results_on, bounds_on, holding, RowResult, Refusal, map_one_to_one, get_d_all}
use Rattle.bound.specs.declared.results.RowResult.TheVariants.{Unreached, Bound, NoBound}
use Rattle.bound.specs.declared.results.Results.{Results}
use Rattle.basis.proofs.Same.{same_by}
use Rattle.bound.proofs.Inside.Lengths.{never}
use Rattle.bound.proofs.Inside.Judging.{Agree, passes_local, result_agrees}
use Rattle.bound.proofs.Lists.{word_there, word_past}

-- ---- one word, one result

-- the result that stands for a word
result : Word → RowResult
result (bound r) = Bound r
result none = NoBound
result unreached = Unreached

result_of_word : (r : RowResult) → result (word r) ≡ r
unfolding result
result_of_word Unreached = refl
result_of_word (Bound r) = refl
result_of_word NoBound = refl

pub word_one_to_one : (a b : RowResult) → word a ≡ word b → a ≡ b
word_one_to_one a b e = sym (result_of_word a) ∙ ap result e ∙ result_of_word b

pub answer_one_to_one : (a b : Result Results Refusal) → answer a ≡ answer b → a ≡ b
answer_one_to_one (Ok a) (Ok b) e =
    let rows : a.rows ≡ b.rows = map_one_to_one word word_one_to_one a.rows b.rows (ap (λ (x : Answer). x.2) e) in
    λ i. Ok (record { holds = (e i).1; rows = rows i })
answer_one_to_one (Ok a) (Err r) e = let z : accepted ≡ refused_by r = ap (λ (x : Answer). x.0) e in cc
answer_one_to_one (Err r) (Ok a) e = let z : refused_by r ≡ accepted = ap (λ (x : Answer). x.0) e in cc
answer_one_to_one (Err r) (Err s) e = ap Err (refused_by_one_to_one r s (ap (λ (x : Answer). x.0) e))

-- ---- two answers that a promise allows are equal

-- `bounds`
pub bounds_same : (h : Sheet) (a b : Result Results Refusal) → answer a ≡ bounds_of h → answer b ≡ bounds_of h → a ≡ b
bounds_same h = same_by answer answer_one_to_one (bounds_of h)

-- whether a sheet holds, and what is lent beside it
pub judgement_same : {A : Type 0} (x : Outcome × (Bool × A)) (r s : Result Bool Refusal) (m d : A) → (outcome r, (holding r, m)) ≡ x → (outcome s, (holding s, d)) ≡ x → (r ≡ s) × (m ≡ d)
judgement_same {A} x r s m d e f = (go r s (λ i. (both i).0) (λ i. (both i).1.0), λ i. (both i).1.1)
  where
    both : ◌≡◌ {A = Outcome × (Bool × A)} (outcome r, (holding r, m)) (outcome s, (holding s, d))
    both = e ∙ sym f

    go : (r s : Result Bool Refusal) → outcome r ≡ outcome s → holding r ≡ holding s → r ≡ s
    go (Ok a) (Ok b) o h = ap Ok h
    go (Ok a) (Err q) o h = cc
    go (Err q) (Ok a) o h = cc
    go (Err q) (Err p) o h = ap Err (refused_by_one_to_one q p o)

-- `bounds_on`: whether the sheet holds, and the list after it
pub bounds_on_same : (l b : List ℕ) (r s : Result Bool Refusal) (m d : List ℕ) → (outcome r, (holding r, m)) ≡ bounds_on l b → (outcome s, (holding s, d)) ≡ bounds_on l b → (r ≡ s) × (m ≡ d)
bounds_on_same l b = judgement_same (bounds_on l b)

-- ---- what an answer tells of a row

-- the result at place i of an answer
abbrev pub told : Answer → ℕ → Word
told a i = get_or a.2 i unreached

module _ (test : Test) (h : Sheet) where
  -- the answer to a legal sheet
  pub legal_answer : legal h ≡ true → bounds_by test h ≡ (accepted, holds test h, upto h.count (result_of test h) all_unreached)
  unfolding bounds_by
  legal_answer e = rw e

  -- a sheet that is not legal is refused by 10 at place 0, does not hold, and reaches no row
  pub refused_by_10 : legal h ≡ false → bounds_by test h ≡ not_legal
  unfolding bounds_by
  refused_by_10 e = rw e

  -- any refusal is that one
  pub only_refused_by_10 : (n p : ℕ) → (bounds_by test h).0 ≡ refused n p → bounds_by test h ≡ not_legal
  only_refused_by_10 n p e = go (legal h) refl where
    go : (b : Bool) → legal h ≡ b → bounds_by test h ≡ not_legal
    go false t = refused_by_10 t
    go true t = let f : accepted ≡ refused n p = sym (ap (λ (x : Answer). x.0) (legal_answer t)) ∙ e in never (cc)

  -- in a legal sheet a row's place has its result
  pub told_is : legal h ≡ true → (i : ℕ) → i < h.count → told (bounds_by test h) i ≡ result_of test h i
  told_is e i l = ap (λ (x : Answer). told x i) (legal_answer e) ∙ word_there test h i (legal_is h e) l

  -- and past the rows, or beside a refusal, no place is reached
  pub past_is_unreached : legal h ≡ true → (i : ℕ) → h.count ≤ i → told (bounds_by test h) i ≡ unreached
  past_is_unreached e i l = ap (λ (x : Answer). told x i) (legal_answer e) ∙ word_past test h i l

  pub refused_is_unreached : legal h ≡ false → (i : ℕ) → told (bounds_by test h) i ≡ unreached
  refused_is_unreached e i = ap (λ (x : Answer). told x i) (refused_by_10 e) ∙ get_d_all most_rows i unreached

-- two legal sheets that agree in m and rows 0 to k have equal results for rows 0 to k
pub rows_above_decide : (h s : Sheet) (k : ℕ) → legal h ≡ true → legal s ≡ true → k < h.count → k < s.count → Agree h s (suc k)
    → (i : ℕ) → i ≤ k → told (bounds_of h) i ≡ told (bounds_of s) i
rows_above_decide h s k eh es lh ls a i l = told_is passes h eh i (omega arith) ∙ result_agrees passes passes_local h s k a i l ∙ sym (told_is passes s es i (omega arith))

-- ---- the answer in a list is the answer by value

module _ (l b : List ℕ) where
  -- its refusal first, then the room; whether the sheet holds, and each row's result
  pub put_is_the_answer : bounds_on l b
      ≡ handed (or_else (bounds_of (sheet_in l)).0 (room_for (results_long (sheet_in l).count) (length b))) ((bounds_of (sheet_in l)).1, filled (result_cell (bounds_of (sheet_in l)).2) b) (false, b)
  unfolding bounds_on results_on
  put_is_the_answer = refl

  -- any refusal leaves the list as it was, and the sheet does not hold
  pub refused_list_is_kept : (n p : ℕ) → (bounds_on l b).0 ≡ refused n p → bounds_on l b ≡ (refused n p, (false, b))
  unfolding bounds_on results_on
  refused_list_is_kept n p e = λ i. (e i, handed_found _ (false, b) (or_else (bounds_of (sheet_in l)).0 (room_for (results_long (sheet_in l).count) (length b))) n p e i)
