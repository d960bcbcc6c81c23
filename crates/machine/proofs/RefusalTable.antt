-- Every refusal is the table's: its number, and its place. Assumes nothing.
use Rattle.basis.specs.Prelude.{ℕ, zero, suc, ◌*◌, ◌/◌, ◌%◌, ◌<◌, ◌≡◌, Bool, true, false, List, length, get_or, drop, ltb, leb, eqb, arith}
use Rattle.machine.proofs.Names.{pick, Outcome, accepted, refused, is_accepted, or_else, first_of, needed, row_at, legal, Row, Sheet, RowState, State, record_at, legal_state, has_job, check_row, check_at, check_releases, check_state, check_room, check_slot, check_run, check_margin, RunAnswer, fresh, slot, entries_of, slot_at, onward, course, run, no_job, margin_is, refused_margin, margin_of, margin_at, margin_by, margin}
use Rattle.machine.proofs.Inside.Courses.{followed}

-- the table's lines for calls of the machine, with n rows: number and place
pub data InTable (n : ℕ) : ℕ → ℕ → Type 0 where
  sheet_not_legal : InTable n 10 0
  list_not_whole : InTable n 11 0
  over_the_budget : {k : ℕ} → k < n → InTable n 12 k
  too_soon_lem : {k : ℕ} → k < n → InTable n 13 k
  missing_row : InTable n 14 0
  short_buffer : InTable n 15 0
  state_not_legal : InTable n 16 0

-- a refusal, if it is one, is in the table
pub record Listed (n : ℕ) (o : Outcome) : Type 0 where
  pub listed : (a b : ℕ) → o ≡ refused a b → InTable n a b

accepted_listed : {n : ℕ} → Listed n accepted
accepted_listed = record { listed = λ a b e. let z : ◌≡◌ {A = ℕ} 0 1 = cc in absurd (omega arith) }

refused_listed : {n a b : ℕ} → InTable n a b → Listed n (refused a b)
refused_listed {n} {a} {b} r = record { listed = λ c d e. let p : a ≡ c = cc in let q : b ≡ d = cc in rw (p, q) at r }

or_listed : {n : ℕ} (x y : Outcome) → Listed n x → Listed n y → Listed n (or_else x y)
or_listed accepted y l m = m
or_listed (refused a b) y l m = l

needed_listed : {n : ℕ} (t : Bool) (k : ℕ) → InTable n k 0 → Listed n (needed t k)
needed_listed true k r = accepted_listed
needed_listed false k r = refused_listed r

first_listed : {n : ℕ} (j : ℕ) (f : ℕ → Outcome) → ((i : ℕ) → i < j → Listed n (f i)) → Listed n (first_of j f)
unfolding first_of
first_listed zero f l = accepted_listed
first_listed (suc j) f l = or_listed (first_of j f) (f j) (first_listed j f (λ i b. l i (omega arith))) (l j (omega arith))

row_listed : {n : ℕ} (row : Row) (s : RowState) (release k : ℕ) → k < n → Listed n (check_row row s release k)
unfolding check_row
row_listed {n} row s release k l = go (eqb release 0) (ltb row.budget release) (ltb s.job.since row.separation)
  where
    go : (x y z : Bool) → Listed n (pick x accepted (pick y (refused 12 k) (pick z (refused 13 k) accepted)))
    go true y z = accepted_listed
    go false true z = refused_listed (over_the_budget l)
    go false false true = refused_listed (too_soon_lem l)
    go false false false = accepted_listed

state_listed : {n : ℕ} (h : Sheet) (t : State) → Listed n (check_state h t)
unfolding check_state
state_listed h t = or_listed (needed (legal h) 10) (needed (legal_state h t) 16) (needed_listed (legal h) 10 sheet_not_legal) (needed_listed (legal_state h t) 16 state_not_legal)

room_listed : {n : ℕ} (long : Bool) (entries room : ℕ) → Listed n (check_room long entries room)
unfolding check_room
room_listed long entries room = or_listed (needed long 11) (needed (leb entries room) 15) (needed_listed long 11 list_not_whole) (needed_listed (leb entries room) 15 short_buffer)

check_listed : (h : Sheet) (t : State) (rel : List ℕ) (room : ℕ) → Listed h.count (check_slot h t rel room)
unfolding check_slot check_releases
check_listed h t rel room =
    or_listed (check_state h t) _ (state_listed h t)
    (or_listed _ _ (room_listed (eqb (length rel) h.count) (length rel) room)
    (first_listed h.count (check_at h t rel) (λ i l. row_listed (row_at h i) (record_at t i) (get_or rel i 0) i l)))

-- each call's refusals
pub fresh_refusals : (h : Sheet) → Listed h.count (fresh h).outcome
unfolding fresh
fresh_refusals h = needed_listed (legal h) 10 sheet_not_legal

pub slot_refusals : (h : Sheet) (t : State) (rel cs : List ℕ) → Listed h.count (slot h t rel cs).outcome
unfolding slot
slot_refusals h t rel cs = check_listed h t rel (length cs)

-- of a run: those of its checks and those of its slots
course_listed : (h : Sheet) (rel : List ℕ) (first : RunAnswer State) (j : ℕ) → Listed h.count first.outcome → Listed h.count (course h rel first j).outcome
unfolding course onward slot_at
course_listed h rel first zero l = l
course_listed h rel first (suc j) l = go (course h rel first j) (is_accepted (course h rel first j).outcome) (course_listed h rel first j l)
  where
    go : (c : RunAnswer State) (b : Bool) → Listed h.count c.outcome → Listed h.count (pick b (followed c.done (slot_at h c.state rel c.codes j)) c).outcome
    go c true m = slot_refusals h c.state (entries_of h.count j rel) (drop (j * h.count) c.codes)
    go c false m = m

pub run_refusals : (h : Sheet) (t : State) (rel cs : List ℕ) → Listed h.count (run h t rel cs).outcome
unfolding run check_run
run_refusals h t rel cs =
    course_listed h rel _ (length rel / h.count) (or_listed (check_state h t) _ (state_listed h t) (room_listed (eqb (length rel % h.count) 0) (length rel) (length cs)))

pub margin_refusals : (h : Sheet) (t : State) (k : ℕ) {a b : ℕ} → margin h t k ≡ refused_margin a b → InTable h.count a b
unfolding margin check_margin margin_at
margin_refusals h t k {a} {b} e =
    go (or_else (check_state h t) (needed (ltb k h.count) 14)) (has_job (record_at t k).job)
    (or_listed (check_state h t) _ (state_listed h t) (needed_listed (ltb k h.count) 14 missing_row)) e where
      go : (o : Outcome) (j : Bool) → Listed h.count o → margin_by o (pick j (margin_is (margin_of (row_at h k) (record_at t k).job)) no_job) ≡ refused_margin a b → InTable h.count a b
      go accepted true l f = let z : ◌≡◌ {A = ℕ} 0 1 = cc in absurd (omega arith)
      go accepted false l f = let z : ◌≡◌ {A = ℕ} 0 1 = cc in absurd (omega arith)
      go (refused c d) j l f = l.listed a b (cc)
