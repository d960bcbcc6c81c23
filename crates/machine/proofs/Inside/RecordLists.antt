-- Records of a state's list, as they are read and written in place. Assumes nothing.
use Rattle.basis.specs.Prelude.{ℕ, zero, suc, ◌+◌, ◌*◌, ◌≤◌, ◌<◌, ◌≡◌, refl, sym, ap, ◌∙◌, true, false, List, ⊎_elim, length, get_or, set, length-set, get_or-set_same, get_or-set_other, ext_get_or, arith, le_refl, eq-or-lt_of_le, add-one}
use Rattle.machine.proofs.Names.{most_rows, upto, lt_or_le, upto_below, upto_past, length_upto, get_d_all, number_at, filled_read, RowState, no_record, no_state, state_of, record_at, record_wide, record_in, state_long, spare_is_zero, state_in, put_record, put_to, cleared}
use Rattle.machine.proofs.Inside.Zeros.{all_zero, each_zero}

-- one record that is written, read
module _ (l : List ℕ) (k : ℕ) (s : RowState) where
  pub length_put : length (put_record l k s) ≡ length l
  unfolding put_record
  length_put = simp length-set refl

  -- another number is as it was
  put_other : (i : ℕ) → (i ≡ k * record_wide → ⊥) → (i ≡ k * record_wide + 1 → ⊥) → number_at (put_record l k s) i ≡ number_at l i
  unfolding put_record
  put_other i a b = rw (get_or-set_other, get_or-set_other)

  put_here : state_long (k + 1) ≤ length l → record_in (put_record l k s) k ≡ s
  unfolding put_record record_in
  put_here r =
      rw (
        get_or-set_other (set l (k * record_wide) s.job.remaining) (k * record_wide + 1) (k * record_wide) s.job.since 0 (λ e. omega arith),
        get_or-set_same l (k * record_wide) s.job.remaining 0 (omega arith),
        get_or-set_same (set l (k * record_wide) s.job.remaining) (k * record_wide + 1) s.job.since 0 (simp length-set (omega arith)),
      )

  put_elsewhere : (j : ℕ) → (j ≡ k → ⊥) → record_in (put_record l k s) j ≡ record_in l j
  unfolding record_in
  put_elsewhere j d = rw (put_other (j * record_wide) (λ e. d (omega arith)) (λ e. omega arith), put_other (j * record_wide + 1) (λ e. omega arith) (λ e. d (omega arith)))

-- the first n records that are written, read
module _ (f : ℕ → RowState) (l : List ℕ) where
  pub length_put_to : (n : ℕ) → length (put_to n f l) ≡ length l
  unfolding put_to
  length_put_to zero = refl
  length_put_to (suc n) = length_put (put_to n f l) n (f n) ∙ length_put_to n

  pub put_past : (n i : ℕ) → state_long n ≤ i → number_at (put_to n f l) i ≡ number_at l i
  unfolding put_to
  put_past zero i h = refl
  put_past (suc n) i h = put_other (put_to n f l) n (f n) i (λ e. omega arith) (λ e. omega arith) ∙ put_past n i (omega arith)

  pub put_record_past : (n k : ℕ) → n ≤ k → record_in (put_to n f l) k ≡ record_in l k
  unfolding record_in
  put_record_past n k h = rw (put_past n (k * record_wide) (omega arith), put_past n (k * record_wide + 1) (omega arith))

  pub put_record_below : (n k : ℕ) → k < n → state_long n ≤ length l → record_in (put_to n f l) k ≡ f k
  unfolding put_to
  put_record_below zero k h r = absurd (omega arith)
  put_record_below (suc n) k h r =
      ⊎_elim (λ e. rw e (put_here (put_to n f l) n (f n) (rw length_put_to (omega arith))))
      (λ m. put_elsewhere (put_to n f l) n (f n) k (λ e. omega arith) ∙ put_record_below n k m (omega arith))
      (eq-or-lt_of_le {n = k} {m = n} (omega arith))

-- a turn: the store of what f says of i makes one record more
pub put_more : (i : ℕ) (f : ℕ → RowState) (l l₀ : List ℕ) (s : RowState) → l ≡ put_to i f l₀ → s ≡ f i → put_record l i s ≡ put_to (i + 1) f l₀
unfolding put_to
put_more i f l l₀ s e k = rw (add-one, e, k)

-- record k of the state that a list hands over is record k of the list
pub record_in_state : (l : List ℕ) (k : ℕ) → spare_is_zero l ≡ true → k < most_rows → record_at (state_in l) k ≡ record_in l k
unfolding state_in
record_in_state l k e h = rw e (upto_below most_rows (record_in l) no_state.rows no_record k h (le_refl most_rows))

-- and it is zero where a number past the last record there is room for is not
pub record_of_none : (l : List ℕ) (k : ℕ) → spare_is_zero l ≡ false → record_at (state_in l) k ≡ no_record
unfolding state_in
record_of_none l k e = rw e (get_d_all most_rows k no_record)

-- a list with room for every record and no more has no spare number
pub spare_of_full : (l : List ℕ) → length l ≡ state_long most_rows → spare_is_zero l ≡ true
spare_of_full l long = all_zero (state_long most_rows) l (λ i b a. absurd (omega arith))

pub state_rows_long : (l : List ℕ) → spare_is_zero l ≡ true → length (state_in l).rows ≡ most_rows
unfolding state_in
state_rows_long l e = rw e (length_upto most_rows (record_in l) no_state.rows)

-- a list of all records, made another
pub records_all : (f : ℕ → RowState) (l m : List RowState) → length l ≡ most_rows → length m ≡ most_rows → ((k : ℕ) → k < most_rows → f k ≡ get_or m k no_record) → upto most_rows f l ≡ m
records_all f l m a b e =
    ext_get_or no_record (upto most_rows f l) m (length_upto most_rows f l ∙ a ∙ sym b)
    (λ k h. let there : k < most_rows = omega (arith, length_upto most_rows f l) in upto_below most_rows f l no_record k there (omega arith) ∙ e k there)

-- the state of a list whose first n records are written
module _ (n : ℕ) (f : ℕ → RowState) (l : List ℕ) (spare : spare_is_zero l ≡ true) (few : n ≤ most_rows) (room : state_long n ≤ length l) where
  spare_put : spare_is_zero (put_to n f l) ≡ true
  spare_put = all_zero (state_long most_rows) (put_to n f l) (λ i b a. rw (put_past f l n i (omega arith)) (each_zero (state_long most_rows) l spare i a))

  pub state_put : state_in (put_to n f l) ≡ state_of (upto n f (state_in l).rows)
  unfolding state_in
  state_put =
      let own : List RowState = upto most_rows (record_in l) no_state.rows in
      let long : length own ≡ most_rows = length_upto most_rows (record_in l) no_state.rows in
      rw (spare_put, spare)
      (ap state_of (records_all (record_in (put_to n f l)) no_state.rows (upto n f own) refl (length_upto n f own ∙ long)
      (λ i there. ⊎_elim (λ a. put_record_below f l n i a room ∙ sym (upto_below n f own no_record i a (omega arith)))
      (λ a. put_record_past f l n i a ∙ sym (upto_past n f own no_record i a ∙ upto_below most_rows (record_in l) no_state.rows no_record i there (le_refl most_rows)))
      (lt_or_le i n))))

-- the same records make the same list
pub put_agree : (n : ℕ) (f g : ℕ → RowState) (l : List ℕ) → ((k : ℕ) → k < n → f k ≡ g k) → put_to n f l ≡ put_to n g l
unfolding put_to
put_agree zero f g l e = refl
put_agree (suc n) f g l e = rw (put_agree n f g l (λ k b. e k (omega arith)), e n (omega arith))

-- a list's own records, put into another list, are its own numbers
pub put_own : (l l₀ : List ℕ) (n i : ℕ) → i < state_long n → state_long n ≤ length l₀ → number_at (put_to n (record_in l) l₀) i ≡ number_at l i
unfolding put_to record_in
put_own l l₀ zero i b r = absurd (omega arith)
put_own l l₀ (suc n) i b r =
    let same = put_record_below (record_in l) l₀ (suc n) n (omega arith) r in
    ⊎_elim (λ a. put_other (put_to n (record_in l) l₀) n (record_in l n) i (λ e. omega arith) (λ e. omega arith) ∙ put_own l l₀ n i a (omega arith))
    (λ a. ⊎_elim (λ m. let e : i ≡ n * record_wide = omega arith in rw e (λ j. (same j).job.remaining))
    (λ m. let e : i ≡ n * record_wide + 1 = omega arith in rw e (λ j. (same j).job.since)) (lt_or_le i (n * record_wide + 1))) (lt_or_le i (state_long n))

-- a list of zeros hands over the state of zeros
module _ (l : List ℕ) (none : (i : ℕ) → number_at l i ≡ 0) where
  pub zeros_spare : spare_is_zero l ≡ true
  zeros_spare = all_zero (state_long most_rows) l (λ i b a. none i)

  pub zeros_state : state_in l ≡ no_state
  unfolding state_in record_in
  zeros_state = rw zeros_spare (ap state_of (records_all (record_in l) no_state.rows no_state.rows refl refl (λ k there. rw (none, none, get_d_all))))

pub cleared_none : (l : List ℕ) (i : ℕ) → number_at (cleared l) i ≡ 0
cleared_none l i = filled_read (λ i. 0) l i (λ b. refl)
