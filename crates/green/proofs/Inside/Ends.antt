-- Where the first n rows of a sheet have bounds, a chain of accepted slots from a moment that slots lead to finishes each of their jobs within its row's bound and misses none of their deadlines. Assumes nothing.
use Rattle.basis.specs.Prelude.{ℕ, zero, suc, ◌+◌, ◌-◌, ◌≤◌, ◌<◌, ◌≡◌, refl, sym, ap, subst, ◌⊎◌, ⊎_elim, List, [], ◌∷◌, arith, zero-add, length, get_or}
use Rattle.green.proofs.Names.{Legal, Sheet, passes, Word, bound, value_of, result_of, State, record_at, next_state, owed, age, Reached, Done, Bounded, release_in, code_in, FinishedWithin, InTime}
use Rattle.green.proofs.Sheets.{rows_of, ranges, safe}
use Rattle.green.proofs.Soundness.{within_bound}
use Rattle.green.proofs.Slots.{moment_of, begin_remaining, released_so}
use Rattle.green.proofs.Inside.Chains.{Chain, none, more, bounds, leads, not_missed, step}

-- from the first slot of a list on, row k's job ends before R slots have gone
record Ends (ds : List Done) (k R : ℕ) : Type 0 where
  pub later : ℕ
  pub within : later < R
  pub finished : code_in ds later k ≡ 3
  pub before : (i : ℕ) → i < later → (code_in ds i k ≡ 1) ⊎ (code_in ds i k ≡ 2)

ends_now : (d : Done) (ds : List Done) (k R : ℕ) → 0 < R → get_or d.codes k 0 ≡ 3 → Ends (d ∷ ds) k R
ends_now d ds k R h e = record { later = 0; within = h; finished = e; before = λ i l. absurd (omega arith) }

ends_later : (d : Done) (ds : List Done) (k R : ℕ) → (get_or d.codes k 0 ≡ 1) ⊎ (get_or d.codes k 0 ≡ 2) → Ends ds k (R - 1) → Ends (d ∷ ds) k R
ends_later d ds k R w e = record { later = suc e.later; within = omega (arith, e.within); finished = e.finished; before = before }
  where
    before : (i : ℕ) → i < suc e.later → (code_in (d ∷ ds) i k ≡ 1) ⊎ (code_in (d ∷ ds) i k ≡ 2)
    before zero l = w
    before (suc i) l = e.before i (omega arith)

-- no release, so nothing new is owed
as_was : (r ρ s : ℕ) → (1 ≤ r → ⊥) → (owed r ρ ≡ ρ) × (age r s ≡ s)
unfolding owed age
as_was zero ρ s h = (refl, refl)
as_was (suc r) ρ s h = absurd (h (omega arith))

as_new : (r ρ s : ℕ) → 1 ≤ r → (owed r ρ ≡ r) × (age r s ≡ 0)
unfolding owed age
as_new zero ρ s h = absurd (omega arith)
as_new (suc r) ρ s h = (refl, refl)

module _ (h : Sheet) (legal : Legal h) (n : ℕ) (up : Bounded h n) (k : ℕ) (l : k < n) where
  abbrev R : ℕ
  R = bounds h legal n up k

  -- a job that is there at a state goes on to its end
  goes_on : (ds : List Done) (t u : State) → Chain h t ds u → Reached (rows_of h n) (moment_of t) → 1 ≤ (record_at t k).job.remaining → R ≤ (record_at t k).job.since + length ds
      → Ends ds k (R - (record_at t k).job.since)
  goes_on [] t u none r x y = absurd (omega (arith, within_bound (rows_of h n) (ranges h legal n up) (safe h legal n up) r k l x))
  goes_on (d ∷ ds) t u (more s c) r x y =
      let b = within_bound (rows_of h n) (ranges h legal n up) (safe h legal n up) r k l x in
      let quiet : 1 ≤ get_or d.releases k 0 → ⊥ = λ z. omega (arith, released_so h t d.releases s.state s.fine k (omega (arith, up.within)) z, ranges h legal n up k l) in
      let o = as_was (get_or d.releases k 0) (record_at t k).job.remaining (record_at t k).job.since quiet in
      ⊎_elim (ends_now d ds k _ (omega arith))
      (λ g. ends_later d ds k _ g.ran_or_waited
      (subst (λ (x : ℕ). Ends ds k x) (omega (arith, g.older))
      (goes_on ds (next_state h t d.releases) u c (leads h legal n up t d r s) g.some (omega (arith, g.older)))))
      (step h legal n up t d r s k l (omega (arith, begin_remaining h t d.releases s.state s.fine k)))

  -- a job that the first slot releases ends within the bound
  released_ends : (ds : List Done) (t u : State) → Chain h t ds u → Reached (rows_of h n) (moment_of t) → 1 ≤ release_in ds 0 k → R ≤ length ds → Ends ds k R
  released_ends [] t u none r x y = absurd (omega arith)
  released_ends (d ∷ ds) t u (more s c) r x y =
      let o = as_new (get_or d.releases k 0) (record_at t k).job.remaining (record_at t k).job.since x in
      ⊎_elim (ends_now d ds k R (omega (arith, ranges h legal n up k l)))
      (λ g. ends_later d ds k R g.ran_or_waited
      (subst (λ (x : ℕ). Ends ds k x) (omega (arith, g.older))
      (goes_on ds (next_state h t d.releases) u c (leads h legal n up t d r s) g.some (omega (arith, g.older)))))
      (step h legal n up t d r s k l (omega (arith, begin_remaining h t d.releases s.state s.fine k)))

module _ (h : Sheet) (legal : Legal h) (n : ℕ) (up : Bounded h n) where
  -- a job that any slot releases ends within the bound
  each_ends : (j k : ℕ) → k < n → (ds : List Done) (t u : State) → Chain h t ds u → Reached (rows_of h n) (moment_of t) → 1 ≤ release_in ds j k → j + bounds h legal n up k ≤ length ds
      → FinishedWithin ds j k (bounds h legal n up k)
  each_ends zero k l ds t u c r x y =
      let e = released_ends h legal n up k l ds t u c r x (omega arith) in
      record { later = e.later; within = e.within; finished = rw zero-add e.finished; before = λ i g. rw zero-add (e.before i g) }
  each_ends (suc j) k l [] t u c r x y = absurd (omega arith)
  each_ends (suc j) k l (d ∷ ds) t u (more s c) r x y =
      let e = each_ends j k l ds (next_state h t d.releases) u c (leads h legal n up t d r s) x (omega arith) in
      let one_on : (i : ℕ) → suc j + i ≡ suc (j + i) = λ i. omega arith in
      record { later = e.later; within = e.within; finished = rw one_on e.finished; before = λ i g. rw one_on (e.before i g) }

  none_is_missed : (j k : ℕ) → k < n → (ds : List Done) (t u : State) → Chain h t ds u → Reached (rows_of h n) (moment_of t) → j < length ds → code_in ds j k ≡ 4 → ⊥
  none_is_missed j k l [] t u c r x e = omega arith
  none_is_missed zero k l (d ∷ ds) t u (more s c) r x e = not_missed h legal n up t d r s k l e
  none_is_missed (suc j) k l (d ∷ ds) t u (more s c) r x e = none_is_missed j k l ds (next_state h t d.releases) u c (leads h legal n up t d r s) (omega arith) e

  -- the row's bound, by its name
  bound_is : (k R : ℕ) → result_of passes h k ≡ bound R → R ≡ bounds h legal n up k
  bound_is k R e = ap (λ (w : Word). (value_of w).0) (sym e)

  -- such a chain is in time
  pub chain_in_time : (ds : List Done) (t u : State) → Chain h t ds u → Reached (rows_of h n) (moment_of t) → InTime h n ds
  chain_in_time ds t u c r = record {
    each_finished = λ j k R l e x y. let q = bound_is k R e in rw q (each_ends j k l ds t u c r x (omega arith));
    none_missed = λ j k x l. none_is_missed j k l ds t u c r x;
  }

  -- and leads to a moment that slots lead to
  pub chain_leads : (ds : List Done) (t u : State) → Chain h t ds u → Reached (rows_of h n) (moment_of t) → Reached (rows_of h n) (moment_of u)
  chain_leads [] t u none r = r
  chain_leads (d ∷ ds) t u (more s c) r = chain_leads ds (next_state h t d.releases) u c (leads h legal n up t d r s)
