-- What the margin of a job says of its deadline, in any continuation of accepted slots. Assumes nothing.
use Rattle.basis.specs.Prelude.{ℕ, zero, suc, ◌+◌, ◌≤◌, ◌<◌, ◌≡◌, sym, ap, ◌∙◌, Bool, true, false, List, length, get_or, arith, lt-ltb, eq-eqb}
use lib.IntN.{pos}
use lib.Signed.{◌<ℤ◌}
use Rattle.machine.proofs.Names.{accepted, first_at, row_at, Row, Sheet, legal_is, Job, RowState, released, worked, aged, ended, code_of, check_row, State, record_at, begun, runs, check_at, check_releases, SlotAnswer, slot_answer, given, slot, margin_of, released_none, release_allowed, worked_near, worked_one, worked_none, older_below, ended_else}
use Rattle.machine.proofs.Agree.{slot_passed, record_after, code_after_lem}
use Rattle.machine.proofs.Inside.Answers.{Accepted_slot, slot_shows}
use Rattle.machine.proofs.Inside.Legals.{legal_state_is}
use Rattle.machine.proofs.Ranges.{negative_late, zero_just}
use Rattle.records.proofs.Inside.Codes.{code_is}

-- n accepted slots one after another, with any releases and any room for codes
pub record Continuation (h : Sheet) (n : ℕ) : Type 0 where
  pub state : ℕ → State
  pub releases : ℕ → List ℕ
  pub room : ℕ → List ℕ
  pub codes : ℕ → List ℕ
  pub each : (j : ℕ) → j < n → slot h (state j) (releases j) (room j) ≡ slot_answer accepted (state (suc j)) (codes j)

-- a row that is too young has no release
no_release_lem : (row : Row) (s : RowState) (r k : ℕ) → s.job.since < row.separation → check_row row s r k ≡ accepted → released r s.job ≡ s.job
no_release_lem row s zero k l e = released_none s.job
no_release_lem row s (suc r) k l e = absurd (omega (arith, (release_allowed row s (suc r) k (omega arith) e).1))

module _ (h : Sheet) (n : ℕ) (g : Continuation h n) (k : ℕ) (there : k < h.count) where
  open g use {state, releases, room, codes, each}

  -- the job of the row before slot i, and whether it runs in it
  abbrev at : ℕ → Job
  at i = (record_at (state i) k).job

  abbrev ran : ℕ → Bool
  ran i = runs (given h (state i) (releases i)) k

  abbrev row : Row
  row = row_at h k

  -- a slot that finds a job there: there is no release, and one slot more has passed since the last
  module _ (i : ℕ) (in-it : i < n) (job : 1 ≤ (at i).remaining) where
    did : (slot h (state i) (releases i) (room i)).outcome ≡ accepted
    did = ap (λ x. x.outcome) (each i in-it)

    shown : Accepted_slot h (state i) (releases i) (length (room i))
    shown = slot_shows h (state i) (releases i) (length (room i)) (slot_passed h (state i) (releases i) (room i) did)

    young : (at i).since < row.separation
    young =
        let in_time = ((legal_state_is h (state i) shown.in_order.at_most_rows shown.in_order.state_legal).rows k there).in_time job in
        omega (arith, ((legal_is h shown.in_order.sheet_legal).rows k there).at_most_deadline)

    same : begun (given h (state i) (releases i)) k ≡ at i
    unfolding check_releases given
    same = no_release_lem row (record_at (state i) k) (get_or (releases i) k 0) k young (first_at h.count (check_at h (state i) (releases i)) shown.releases k there)

    -- its code, and its job after it
    abbrev left : Job
    left = worked (ran i) (at i)

    code_now : get_or (codes i) k 0 ≡ code_of row (ran i) (at i) (aged row left)
    unfolding given
    code_now =
        ap (λ (x : SlotAnswer State). get_or x.codes k 0) (sym (each i in-it)) ∙ code_after_lem h (state i) (releases i) (room i) did k there
        ∙ ap (λ (j : Job). code_of row (ran i) j (aged row (worked (ran i) j))) same

    next_now : at (suc i) ≡ ended row (aged row left)
    unfolding given
    next_now =
        ap (λ (x : SlotAnswer State). (record_at x.state k).job) (sym (each i in-it)) ∙ ap (λ (s : RowState). s.job) (record_after h (state i) (releases i) (room i) did k there)
        ∙ ap (λ (j : Job). ended row (aged row (worked (ran i) j))) same

    older_now : (aged row left).since ≡ (at i).since + 1
    unfolding aged worked
    older_now = older_below row.separation (at i).since young

    missed_now : 1 ≤ left.remaining → (at i).since + 1 ≡ row.deadline → get_or (codes i) k 0 ≡ 4
    unfolding aged
    missed_now some e =
        code_now ∙ code_is row (ran i) (at i) (aged row left)
        ∙ rw (lt-ltb 0 (at i).remaining job, lt-ltb 0 left.remaining some, eq-eqb (aged row left).since row.deadline (older_now ∙ e))

    finished_now : left.remaining ≡ 0 → get_or (codes i) k 0 ≡ 3
    unfolding aged
    finished_now e = code_now ∙ code_is row (ran i) (at i) (aged row left) ∙ rw (lt-ltb 0 (at i).remaining job, e)

    -- a job that is not through by the slot before its deadline goes on, a slot older
    goes_on : ((at i).since + 1 ≡ row.deadline → ⊥) → ((at (suc i)).remaining ≡ left.remaining) × ((at (suc i)).since ≡ (at i).since + 1)
    unfolding aged ended
    goes_on d = (rw next_now (ended_else row (aged row left) (λ e. d (sym older_now ∙ e))), rw next_now older_now)

  -- a job with more to run than slots to its deadline is missed at its deadline, in slot j, d slots after slot i
  late : (d i j : ℕ) → i + d ≡ j → j < n → 1 ≤ (at i).remaining → (at i).since + d + 1 ≡ row.deadline → row.deadline < (at i).since + (at i).remaining → get_or (codes j) k 0 ≡ 4
  late zero i j q b job e l = let s : j ≡ i = omega arith in rw s (missed_now i (omega arith) job (omega (arith, worked_near (ran i) (at i))) (omega arith))
  late (suc d) i j q b job e l =
      let near = worked_near (ran i) (at i) in
      let on = goes_on i (omega arith) job (λ f. omega arith) in
      late d (suc i) j (omega arith) b (omega arith) (omega arith) (omega arith)

  -- a job that has just enough slots and runs in each is finished at its deadline
  just : (d i j : ℕ) → i + d ≡ j → j < n → 1 ≤ (at i).remaining → (at i).since + d + 1 ≡ row.deadline → (at i).since + (at i).remaining ≡ row.deadline
      → ((x : ℕ) → i ≤ x → x ≤ j → ran x ≡ true) → get_or (codes j) k 0 ≡ 3
  just zero i j q b job e l r = let s : j ≡ i = omega arith in rw s (finished_now i (omega arith) job (omega (arith, worked_one (ran i) (at i) (r i (omega arith) (omega arith)))))
  just (suc d) i j q b job e l r =
      let one_less = worked_one (ran i) (at i) (r i (omega arith) (omega arith)) in
      let on = goes_on i (omega arith) job (λ f. omega arith) in
      just d (suc i) j (omega arith) b (omega arith) (omega arith) (omega arith) (λ x a c. r x (omega arith) c)

  -- a job that has just enough slots and waits in one of them, slot w, is missed at its deadline
  waited : (v d i w j : ℕ) → i + v ≡ w → i + d ≡ j → v ≤ d → j < n → 1 ≤ (at i).remaining → (at i).since + d + 1 ≡ row.deadline → row.deadline ≤ (at i).since + (at i).remaining
      → ran w ≡ false → get_or (codes j) k 0 ≡ 4
  waited zero zero i w j p q a b job e l r =
      let here : w ≡ i = omega arith in
      let all = worked_none (ran i) (at i) (rw here at r) in
      let s : j ≡ i = omega arith in rw s (missed_now i (omega arith) job (omega arith) (omega arith))
  waited zero (suc d) i w j p q a b job e l r =
      let here : w ≡ i = omega arith in
      let all = worked_none (ran i) (at i) (rw here at r) in
      let on = goes_on i (omega arith) job (λ f. omega arith) in
      late d (suc i) j (omega arith) b (omega arith) (omega arith) (omega arith)
  waited (suc v) zero i w j p q a b job e l r = absurd (omega arith)
  waited (suc v) (suc d) i w j p q a b job e l r =
      let near = worked_near (ran i) (at i) in
      let on = goes_on i (omega arith) job (λ f. omega arith) in
      waited v d (suc i) w j (omega arith) (omega arith) (omega arith) b (omega arith) (omega arith) (omega arith) r

  -- what the margin says before the first of the slots; since reaches the deadline in slot d
  module _ (job : 1 ≤ (at 0).remaining) (d : ℕ) (reaches : (at 0).since + d + 1 ≡ row.deadline) (given-it : d < n) where
    -- a negative margin: every continuation that reaches the deadline gives code 4 there
    pub negative_is_missed : margin_of row (at 0) <ℤ pos 0 → get_or (codes d) k 0 ≡ 4
    negative_is_missed m = late d 0 d (omega arith) given-it job reaches (negative_late row (at 0) m)

    -- a margin of zero: one waiting slot, and it ends in 4
    pub zero_waits_once : margin_of row (at 0) ≡ pos 0 → (v : ℕ) → v ≤ d → ran v ≡ false → get_or (codes d) k 0 ≡ 4
    zero_waits_once m v l r = waited v d 0 v d (omega arith) (omega arith) l given-it job reaches (omega (arith, zero_just row (at 0) m)) r

    -- and running in every slot it ends in 3
    pub zero_runs_on : margin_of row (at 0) ≡ pos 0 → ((v : ℕ) → v ≤ d → ran v ≡ true) → get_or (codes d) k 0 ≡ 3
    zero_runs_on m r = just d 0 d (omega arith) given-it job reaches (zero_just row (at 0) m) (λ x a c. r x c)
