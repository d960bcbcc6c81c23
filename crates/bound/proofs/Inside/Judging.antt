-- The results of the rows, for any test that looks at no lower row: each is the judgement by those above, and sheets that agree in m and rows 0 to k agree in them. Assumes nothing.
use Rattle.basis.specs.Prelude.{ℕ, zero, suc, ◌+◌, ◌-◌, ◌≤◌, ◌<◌, ◌≡◌, refl, sym, ap, ap₂, ◌∙◌, Bool, true, false, ⊎_elim, eq-or-lt_of_le, arith, ltb, lt-ltb, le-ltb}
use Rattle.bound.proofs.Names.{pick, both, all_of, sum_same, all_same, all_one_more, row_at, Row, Sheet, slots, Test, q, X, amount_of, amounts, room, passes, Word, unreached, is_bound, value_of, least, passes_at, bound_by, bounds, bounded, judge, results_to, result_of, Duration}
use Rattle.bound.proofs.Inside.Lengths.{least_same}

-- two sheets agree in m and in the first n rows
pub record Agree (h s : Sheet) (n : ℕ) : Type 0 where
  pub processors : h.processors ≡ s.processors
  pub rows : (i : ℕ) → i < n → row_at h i ≡ row_at s i

pub agree_less : (h s : Sheet) (n m : ℕ) → m ≤ n → Agree h s n → Agree h s m
agree_less h s n m l a = record { processors = a.processors; rows = λ i b. a.rows i (omega arith) }

pub agree_self : (h : Sheet) (n : ℕ) → Agree h h n
agree_self h n = record { processors = refl; rows = λ i b. refl }

-- a test of row k looks at m, at rows 0 to k and at the bounds above k only
abbrev pub Local : Test → Type 0
Local test = (h s : Sheet) (R Q : ℕ → Duration) (k : ℕ) → Agree h s (suc k) → ((i : ℕ) → i < k → R i ≡ Q i) → (L : Duration) → test h R k L ≡ test s Q k L

pub passes_local : Local passes
unfolding passes amounts amount_of room q X
passes_local h s R Q k a e L =
    let here : row_at h k ≡ row_at s k = a.rows k (omega arith) in
    let there : h.processors ≡ s.processors = a.processors in
    let own : (i : ℕ) → i < k → row_at h i ≡ row_at s i = λ i b. a.rows i (omega arith) in
    rw (here, there) (ap₂ ltb (sum_same k _ _ (λ i b. rw (own i b, e i b))) refl)

module _ (test : Test) (loc : Local test) where
  pub bound_agrees : (h s : Sheet) (R Q : ℕ → Duration) (k : ℕ) → Agree h s (suc k) → ((i : ℕ) → i < k → R i ≡ Q i) → bound_by test h R k ≡ bound_by test s Q k
  unfolding bound_by
  bound_agrees h s R Q k a e =
      ap (λ (r : Row). least (passes_at test h R k) r.budget (r.deadline + 1 - r.budget)) (a.rows k (omega arith))
      ∙ least_same (passes_at test h R k) (passes_at test s Q k) (λ l. loc h s R Q k a e (slots l)) ((row_at s k).deadline + 1 - (row_at s k).budget) (row_at s k).budget

  judge_agrees : (h s : Sheet) (f g : ℕ → Word) (k : ℕ) → Agree h s (suc k) → ((i : ℕ) → i < k → f i ≡ g i) → judge test h f k ≡ judge test s g k
  unfolding judge
  judge_agrees h s f g k a e =
      ap₂ (λ (b : Bool) (r : Word). pick b r unreached)
      (all_same k (bounded f) (bounded g) (λ i l. ap is_bound (e i l)))
      (bound_agrees h s (bounds f) (bounds g) k a (λ i l. ap value_of (e i l)))

  results_agree : (h s : Sheet) (n : ℕ) → Agree h s n → (i : ℕ) → results_to test h n i ≡ results_to test s n i
  unfolding results_to
  results_agree h s zero a i = refl
  results_agree h s (suc n) a i =
      let f : (j : ℕ) → results_to test h n j ≡ results_to test s n j = results_agree h s n (agree_less h s (suc n) n (omega arith) a) in
      ap₂ (pick (ltb i n)) (f i) (judge_agrees h s (results_to test h n) (results_to test s n) n a (λ j l. f j))

  -- two sheets that agree in m and rows 0 to k have equal results for rows 0 to k
  pub result_agrees : (h s : Sheet) (k : ℕ) → Agree h s (suc k) → (i : ℕ) → i ≤ k → result_of test h i ≡ result_of test s i
  unfolding result_of
  result_agrees h s k a i l =
      let b : Agree h s (suc i) = agree_less h s (suc k) (suc i) (omega arith) a in
      judge_agrees h s (results_to test h i) (results_to test s i) i b (λ j m. results_agree h s i (agree_less h s (suc i) i (omega arith) b) j)

  result_to : (h : Sheet) (n i : ℕ) → i < n → results_to test h n i ≡ result_of test h i
  unfolding results_to result_of
  result_to h zero i l = absurd (omega arith)
  result_to h (suc n) i l =
      ⊎_elim
      (λ e. let f : ltb i n ≡ false = le-ltb i n (omega arith) in let g : judge test h (results_to test h n) n ≡ result_of test h i = ap (result_of test h) (sym e) in rw f g)
      (λ m. rw (lt-ltb i n m) (result_to h n i m))
      (eq-or-lt_of_le {n = i} {m = n} (omega arith))

  -- the equation of the results
  pub result_is : (h : Sheet) (k : ℕ) → result_of test h k ≡ judge test h (result_of test h) k
  unfolding result_of
  result_is h k = judge_agrees h h (results_to test h k) (result_of test h) k (agree_self h (suc k)) (result_to h k)

  module _ (h : Sheet) (k : ℕ) where
    -- where each row above has a bound, and where one has none
    pub result_where : (b : Bool) → all_of k (bounded (result_of test h)) ≡ b → result_of test h k ≡ pick b (bound_by test h (bounds (result_of test h)) k) unreached
    unfolding judge
    result_where b e = result_is h k ∙ rw e

    -- a row has a bound exactly where it is reached and has one
    pub bound_all : is_bound (result_of test h k) ≡ all_of (k + 1) (bounded (result_of test h))
    bound_all = go (all_of k (bounded (result_of test h))) refl ∙ sym (all_one_more k (bounded (result_of test h))) where
      go : (b : Bool) → all_of k (bounded (result_of test h)) ≡ b → is_bound (result_of test h k) ≡ both (all_of k (bounded (result_of test h))) (is_bound (result_of test h k))
      go true t = rw t
      go false t = rw t (ap is_bound (result_where false t))
