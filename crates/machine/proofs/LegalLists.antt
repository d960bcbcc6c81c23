-- A list that holds a legal state: what it shows of its numbers, and the lists that are refused. Assumes nothing.
use Rattle.basis.specs.Prelude.{ℕ, ◌+◌, ◌-◌, ◌*◌, ◌/◌, ◌%◌, ◌≤◌, ◌<◌, ◌≡◌, refl, sym, ap, ◌∙◌, Bool, true, false, List, ⊎_elim, length, get_or-eq_default, ext_get_or, eqb, arith, mod-lt, div-add-mod', eqb-true}
use Rattle.machine.proofs.Names.{most_rows, upto, lt_or_le, both_left, both_right, true_not_false, upto_below, upto_past, length_upto, legal, Sheet, legal_is, number_at, not_so, RowState, State, state_of, record_at, legal_state, record_of, no_record, is_zero, is_zero_job, record_wide, record_in, state_long, spare_is_zero, state_in, put_to, put_state}
use Rattle.machine.proofs.Inside.Legals.{legal_state_is}
use Rattle.machine.proofs.Inside.RecordLists.{record_in_state, record_of_none, length_put_to, put_past, put_agree, put_own, state_rows_long, state_put}
use Rattle.machine.proofs.Inside.Zeros.{each_zero}

-- a list that holds a legal state
module _ (h : Sheet) (l : List ℕ) (fine : legal h ≡ true) where
  pub few : h.count ≤ most_rows
  few = (legal_is h fine).at_most_rows

  -- it is enough that some record of a row has no slot since its release
  no_since : (k : ℕ) → k < h.count → (record_at (state_in l) k).job.since ≡ 0 → legal_state h (state_in l) ≡ false
  no_since k b z = not_so (legal_state h (state_in l)) (λ e. omega (arith, z, ((legal_state_is h (state_in l) few e).rows k b).some_since))

  -- A state's list with a number other than zero past the last record there is room for is refused.
  pub spare_records_are_refused : spare_is_zero l ≡ false → legal_state h (state_in l) ≡ false
  spare_records_are_refused e = no_since 0 (legal_is h fine).some_rows (ap (λ (s : RowState). s.job.since) (record_of_none l 0 e))

  -- by whether every number out there is zero
  by_spare : (spare_is_zero l ≡ true → legal_state h (state_in l) ≡ false) → legal_state h (state_in l) ≡ false
  by_spare f = go (spare_is_zero l) refl
    where
      go : (b : Bool) → spare_is_zero l ≡ b → legal_state h (state_in l) ≡ false
      go true = f
      go false = spare_records_are_refused

  -- A state's list that ends before its last record is refused: the slots since release that it lacks are zero.
  pub missing_records_are_refused : length l < state_long h.count → legal_state h (state_in l) ≡ false
  unfolding record_in
  missing_records_are_refused b = by_spare λ e.
      let r = legal_is h fine in
      let k : ℕ = h.count - 1 in
      no_since k (omega arith) (rw (record_in_state l k e (omega arith)) (get_or-eq_default l 0 {n = k * record_wide + 1} (omega arith)))

  -- what a legal state shows of its list
  module _ (kept : legal_state h (state_in l) ≡ true) where
    pub kept_spare : spare_is_zero l ≡ true
    kept_spare = go (spare_is_zero l) refl
      where
        go : (b : Bool) → spare_is_zero l ≡ b → b ≡ true
        go true e = refl
        go false e = true_not_false (sym kept ∙ spare_records_are_refused e)

    pub kept_long : (n : ℕ) → n ≡ h.count → state_long n ≤ length l
    kept_long n en = ⊎_elim (λ a. true_not_false (sym kept ∙ missing_records_are_refused (omega arith))) (λ a. a) (lt_or_le (length l) (state_long n))

    pub kept_record : (k : ℕ) → k < h.count → record_in l k ≡ record_at (state_in l) k
    kept_record k b = sym (record_in_state l k kept_spare (omega (arith, few)))

    -- past the records of the sheet's rows there are zeros
    pair_zero : (i : ℕ) → is_zero (record_in l (i / record_wide)) ≡ true → number_at l i ≡ 0
    unfolding is_zero_job record_in
    pair_zero i e =
        let by = div-add-mod' i record_wide in
        let small = mod-lt i {m = record_wide} (omega arith) in
        ⊎_elim
        (λ a. let s : i ≡ i / record_wide * record_wide = omega arith in ap (number_at l) s ∙ eqb-true _ 0 (both_left (eqb (number_at l (i / record_wide * record_wide)) 0) _ e))
        (λ a. let s : i ≡ i / record_wide * record_wide + 1 = omega arith in ap (number_at l) s ∙ eqb-true _ 0 (both_right (eqb (number_at l (i / record_wide * record_wide)) 0) _ e))
        (lt_or_le (i % record_wide) 1)

    pub past_is_zero : (i : ℕ) → state_long h.count ≤ i → number_at l i ≡ 0
    past_is_zero i m = ⊎_elim
        (λ a. let there : i / record_wide < most_rows = omega (arith, div-add-mod' i record_wide) in
        pair_zero i (ap is_zero (sym (record_in_state l (i / record_wide) kept_spare there))
        ∙ (legal_state_is h (state_in l) few kept).past (i / record_wide) (omega (arith, div-add-mod' i record_wide, mod-lt i {m = record_wide} (omega arith))) there))
        (each_zero (state_long most_rows) l kept_spare i) (lt_or_le i (state_long most_rows))

-- A state's list with a number other than zero past the records of the sheet's rows is refused.
pub numbers_past_records_are_refused : (h : Sheet) (l : List ℕ) → legal h ≡ true → (i : ℕ) → state_long h.count ≤ i → (number_at l i ≡ 0 → ⊥) → legal_state h (state_in l) ≡ false
numbers_past_records_are_refused h l fine i b d = not_so (legal_state h (state_in l)) (λ kept. d (past_is_zero h l fine kept i b))

-- A list that holds a legal state is any other such list, as long, with that state put into it.
pub list_of_kept : (h : Sheet) (l l₀ : List ℕ) → legal h ≡ true → legal_state h (state_in l) ≡ true → legal_state h (state_in l₀) ≡ true → length l ≡ length l₀ → put_state h.count (state_in l) l₀ ≡ l
unfolding put_state
list_of_kept h l l₀ fine kept kept₀ long =
    put_agree h.count (record_at (state_in l)) (record_in l) l₀ (λ k b. sym (kept_record h l fine kept k b))
    ∙ ext_get_or 0 (put_to h.count (record_in l) l₀) l (length_put_to (record_in l) l₀ h.count ∙ sym long)
    (λ i b. ⊎_elim (λ a. put_own l l₀ h.count i a (kept_long h l₀ fine kept₀ h.count refl))
    (λ a. rw (put_past (record_in l) l₀ h.count i a, past_is_zero h l₀ fine kept₀ i a, past_is_zero h l fine kept i a)) (lt_or_le i (state_long h.count)))

-- a record that is all zero, as a value
zero_record : (s : RowState) → is_zero s ≡ true → s ≡ no_record
unfolding is_zero_job
zero_record s e =
    let a = eqb-true _ 0 (both_left (eqb s.job.remaining 0) _ e) in
    let b = eqb-true _ 0 (both_right (eqb s.job.remaining 0) _ e) in λ i. record_of (record { remaining = a i; since = b i })

-- A legal state that is put into a list that holds a legal state is the state that the list hands over.
pub state_comes_back : (h : Sheet) (l : List ℕ) (t : State) → legal h ≡ true → legal_state h (state_in l) ≡ true → legal_state h t ≡ true → length t.rows ≡ most_rows
    → state_in (put_state h.count t l) ≡ t
unfolding put_state
state_comes_back h l t fine kept also long =
    let most = few h l fine in
    let spare = kept_spare h l fine kept in
    let whole : length (upto h.count (record_at t) (state_in l).rows) ≡ most_rows = length_upto h.count (record_at t) (state_in l).rows ∙ state_rows_long l spare in
    state_put h.count (record_at t) l spare most (kept_long h l fine kept h.count refl)
    ∙ ap state_of (ext_get_or no_record (upto h.count (record_at t) (state_in l).rows) t.rows (whole ∙ sym long) (λ k b.
    let there : k < most_rows = omega arith in
    ⊎_elim (λ a. upto_below h.count (record_at t) (state_in l).rows no_record k a (omega (arith, state_rows_long l spare)))
    (λ a. rw (upto_past h.count (record_at t) (state_in l).rows no_record k a, zero_record (record_at (state_in l) k) ((legal_state_is h (state_in l) most kept).past k a there))
    (sym (zero_record (record_at t k) ((legal_state_is h t most also).past k a there)))) (lt_or_le k h.count)))
