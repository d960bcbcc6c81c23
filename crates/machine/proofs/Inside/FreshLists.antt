-- The fresh state in a list: a turn of the loop that writes it, and each way out. Assumes nothing.
use Rattle.basis.specs.Prelude.{ℕ, ◌+◌, ◌≤◌, ◌<◌, ◌≡◌, refl, sym, ap, ◌∙◌, true, List, length, length-replicate, arith, le-leb, lt-leb}
use Rattle.machine.proofs.Names.{most_rows, accepted, refused, needed, upto_none, upto_below, row_at, legal, Row, Sheet, legal_is, filled, cleared_cell, length_filled, record_of, no_record, no_state, record_at, fresh_at, fresh_state, fresh_answer, fresh, state_long, put_record, put_to, put_state, cleared, fresh_on}
use Rattle.sheet.proofs.Inside.ClearedLists.{cleared_is_filled}
use Rattle.machine.proofs.Inside.RecordLists.{put_more, put_agree}

-- the fresh records are those of the fresh state
pub fresh_put : (h : Sheet) (l : List ℕ) → legal h ≡ true → put_to h.count (fresh_at h) l ≡ put_state h.count (fresh_state h) l
unfolding put_state fresh_state
fresh_put h l fine =
    put_agree h.count (fresh_at h) (record_at (fresh_state h)) l
    (λ k b. sym (upto_below h.count (fresh_at h) no_state.rows no_record k b (omega (arith, (legal_is h fine).at_most_rows, length-replicate most_rows no_record))))

-- `put_fresh`
pub fresh_more : (h : Sheet) (l l₀ l' : List ℕ) (i : ℕ) (row : Row) → l ≡ put_to i (fresh_at h) l₀ → row ≡ row_at h i
    → l' ≡ put_record l i (record_of (record { remaining = 0; since = row.separation })) → l' ≡ put_to (i + 1) (fresh_at h) l₀
fresh_more h l l₀ l' i row so_far er e = e ∙ put_more i (fresh_at h) l l₀ _ so_far (rw er)

-- `fresh_on`
module _ (h : Sheet) (l : List ℕ) where
  pub fresh_on_10 : (a b : ℕ) → refused a b ≡ needed (legal h) 10 → fresh_answer (refused a b) l ≡ fresh_on h l
  unfolding fresh_on fresh
  fresh_on_10 a b e = rw (sym e)

  module _ (fine : legal h ≡ true) (n : ℕ) (en : n ≡ h.count) where
    pub fresh_on_15 : length l < state_long n → fresh_answer (refused 15 0) l ≡ fresh_on h l
    unfolding fresh_on fresh
    fresh_on_15 b = rw (fine, lt-leb (state_long h.count) (length l) (omega arith))

    pub fresh_on_written : (l₁ l₂ : List ℕ) → state_long n ≤ length l → l₁ ≡ filled (cleared_cell 0 l) l → l₂ ≡ put_to n (fresh_at h) l₁ → fresh_answer accepted l₂ ≡ fresh_on h l
    unfolding fresh_on fresh
    fresh_on_written l₁ l₂ b c d =
        let all : filled (cleared_cell 0 l) l ≡ cleared l = cleared_is_filled (λ i. 0) 0 l l (upto_none (λ i. 0) l) (omega arith) (λ i b. refl) in
        rw (fine, le-leb (state_long h.count) (length l) (omega arith), d, en, c, all, fresh_put h (cleared l) fine)

pub cleared_long : (l l₁ : List ℕ) (m : ℕ) → m ≤ length l → l₁ ≡ filled (cleared_cell 0 l) l → m ≤ length l₁
cleared_long l l₁ m b c = omega (arith, ap length c, length_filled (cleared_cell 0 l) l)
