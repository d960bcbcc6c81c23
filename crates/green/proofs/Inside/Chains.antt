-- Accepted slots one after another, each from the state that the one before it left; and that those of the first n rows are in time where these have bounds. Assumes nothing.
use Rattle.basis.specs.Prelude.{ℕ, zero, suc, ◌+◌, ◌≤◌, ◌<◌, ◌≡◌, refl, sym, ap, ◌∙◌, ◌⊎◌, inl, inr, ⊎_elim, List, [], ◌∷◌, ◌++◌, arith, get_or, Bool, true, false, lt-ltb, le-ltb}
use Rattle.green.proofs.Names.{accepted, row_at, Legal, Sheet, State, record_at, RowState, begun, runs, reached, code, check_releases, given, next_state, four_says, LegalState, next_at, ended_else, Done, Bounded, pick, Row, Job, code_of, code_is, goes_on}
use Rattle.green.specs.Inside.Model.{age, Reached, slot}
use Rattle.green.proofs.Sheets.{rows_of, ranges, safe}
use Rattle.green.proofs.Soundness.{slot_within_bound}
use Rattle.green.proofs.Slots.{moment_of, ran, slot_is, reached_remaining, reached_since, next_since}

module _ (row : Row) (ran : Bool) (before after : Job) where
  -- nothing is left: 3
  finished_code : 1 ≤ before.remaining → after.remaining ≡ 0 → code_of row ran before after ≡ 3
  finished_code h e = code_is row ran before after ∙ simp (lt-ltb 0 before.remaining h, le-ltb 0 after.remaining (omega arith))

  -- something is left, and it is not the deadline: 1 or 2
  going_code : 1 ≤ before.remaining → 1 ≤ after.remaining → (after.since ≡ row.deadline → ⊥) → (code_of row ran before after ≡ 1) ⊎ (code_of row ran before after ≡ 2)
  going_code h g d = ⊎_elim (λ e. inl (goes_on row ran before after h g d ∙ e)) (λ e. inr (goes_on row ran before after h g d ∙ e)) (one_or_two ran)
    where
      one_or_two : (b : Bool) → (◌≡◌ {A = ℕ} (pick b 2 1) 1) ⊎ (◌≡◌ {A = ℕ} (pick b 2 1) 2)
      one_or_two true = inr refl
      one_or_two false = inl refl

-- an accepted slot from a state: what it was checked for, and the codes that it wrote
pub record Slotted (h : Sheet) (t : State) (d : Done) : Type 0 where
  pub state : LegalState h t
  pub fine : check_releases h t d.releases ≡ accepted
  pub wrote : (k : ℕ) → k < h.count → get_or d.codes k 0 ≡ code (given h t d.releases) k

-- slots one after another, from a state to a state
pub data Chain (h : Sheet) : State → List Done → State → Type 0 where
  none : {t : State} → Chain h t [] t
  more : {t u : State} {d : Done} {ds : List Done} → Slotted h t d → Chain h (next_state h t d.releases) ds u → Chain h t (d ∷ ds) u

pub chain_append : (h : Sheet) {t u v : State} {ds es : List Done} → Chain h t ds u → Chain h u es v → Chain h t (ds ++ es) v
chain_append h none c = c
chain_append h (more s b) c = more s (chain_append h b c)

module _ (h : Sheet) (legal : Legal h) (n : ℕ) (up : Bounded h n) where
  abbrev pub bounds : ℕ → ℕ
  bounds k = (rows_of h n).R k

  -- one slot, from a state that slots lead to
  module _ (t : State) (d : Done) (r : Reached (rows_of h n) (moment_of t)) (s : Slotted h t d) where
    pub leads : Reached (rows_of h n) (moment_of (next_state h t d.releases))
    leads = slot (λ k. get_or d.releases k 0) (ran h t d.releases s.state s.fine) r (slot_is h t d.releases s.state s.fine n up.within)

    module _ (k : ℕ) (l : k < n) where
      there : k < h.count
      there = omega (arith, up.within)

      abbrev left : ℕ
      left = (reached (given h t d.releases) k).remaining

      abbrev old : ℕ
      old = (reached (given h t d.releases) k).since

      -- what is left before anything is dropped
      in_bound : 1 ≤ left → old + left ≤ bounds k
      in_bound x =
          let rest = reached_remaining h t d.releases s.state s.fine k in
          let bound = slot_within_bound (rows_of h n) (ranges h legal n up) (safe h legal n up) _ _ r (slot_is h t d.releases s.state s.fine n up.within) k l in
          omega (arith, bound (omega arith), next_since h t d.releases s.state s.fine k there)

      -- no code 4
      pub not_missed : get_or d.codes k 0 ≡ 4 → ⊥
      unfolding given
      not_missed e =
          let (_, some, late) = four_says (row_at h k) (runs (given h t d.releases) k) (begun (given h t d.releases) k) (reached (given h t d.releases) k) (sym (s.wrote k there) ∙ e) in
          omega (arith, in_bound some, ranges h legal n up k l)

      -- a job finishes in this slot, or goes on: it waited or ran, and is a slot older
      pub record GoesOn : Type 0 where
        pub ran_or_waited : (get_or d.codes k 0 ≡ 1) ⊎ (get_or d.codes k 0 ≡ 2)
        pub some : 1 ≤ (record_at (next_state h t d.releases) k).job.remaining
        pub older : (record_at (next_state h t d.releases) k).job.since ≡ age (get_or d.releases k 0) (record_at t k).job.since + 1

      pub step : 1 ≤ (begun (given h t d.releases) k).remaining → (get_or d.codes k 0 ≡ 3) ⊎ GoesOn
      unfolding given
      step x = go left refl
        where
          go : (y : ℕ) → left ≡ y → (get_or d.codes k 0 ≡ 3) ⊎ GoesOn
          go zero e = inl (s.wrote k there ∙ finished_code (row_at h k) (runs (given h t d.releases) k) (begun (given h t d.releases) k) (reached (given h t d.releases) k) x e)
          go (suc y) e =
              let b = in_bound (omega arith) in
              let early : old ≡ (row_at h k).deadline → ⊥ = λ f. omega (arith, ranges h legal n up k l) in
              let r' = next_at h t d.releases s.state k there in
              let c = going_code (row_at h k) (runs (given h t d.releases) k) (begun (given h t d.releases) k) (reached (given h t d.releases) k) x (omega arith) early in
              inr (record {
                ran_or_waited = ⊎_elim (λ f. inl (s.wrote k there ∙ f)) (λ f. inr (s.wrote k there ∙ f)) c;
                some = omega (arith, ap (λ (z : RowState). z.job.remaining) r', ended_else (row_at h k) (reached (given h t d.releases) k) early);
                older = omega (arith, next_since h t d.releases s.state s.fine k there, reached_since h t d.releases s.state s.fine k there, ranges h legal n up k l);
              })
