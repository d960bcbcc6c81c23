-- A slot is read in a window of the bytes as in the bytes, where the window reaches far enough. Assumes nothing.
use Rattle.basis.specs.Prelude.{ℕ, zero, suc, ◌+◌, ◌*◌, ◌-◌, ◌≤◌, ◌≡◌, refl, sym, ap, ◌∙◌, Bool, true, false, List, ◌++◌, arith, length, set}
use Rattle.scenario.proofs.Names.{most_groups, most_rows, Reader, Step, ok, refuse, pick, bounded, taken, number, up_to, slot_handed, read_slot, budget_at, no_releases, releases, row, slot, slot_reach, Reaches, moved_answer, moved, moved_by, legal_is, legal, Sheet}
use Rattle.scenario.proofs.Inside.Moves.{reaches_less, then_moved, number_moved, up_to_moved, row_moved}
use Rattle.scenario.proofs.Inside.OneSlot.{spelt_few, row_is, read_slot_is}
use Rattle.basis.specs.Readers.{◌>>=◌}

module _ (h : Sheet) (before w rest : List ℕ) where
  -- after row r only rows above it are accepted, so that so many bytes are looked at whatever the number of releases is
  releases_in_a_window : (k least : ℕ) (l : List ℕ) (at : ℕ) → Reaches w rest at ((h.count - least) * 2 * most_groups + most_groups)
      → releases h k least l (before ++ (w ++ rest)) (length before + at) ≡ moved (length before) (releases h k least l w at)
  unfolding releases moved
  releases_in_a_window zero least l at e = refl
  releases_in_a_window (suc k) least l at e =
      let rest_of : ℕ → ℕ → Reader (List ℕ) = λ r c. releases h k (r + 1) (set l r c) in
      let counted : ℕ → Reader (List ℕ) = λ r. up_to (budget_at h r) 12 12 >>= rest_of r in
      then_moved before w rest (row h.count least) (row h.count least) counted counted at
      (row_moved before w rest h.count least at (reaches_less before w rest at _ at most_groups (omega arith) e)) λ r a e₁.
      let q = row_is h.count least w at r a e₁ in
      then_moved before w rest (up_to (budget_at h r) 12 12) (up_to (budget_at h r) 12 12) (rest_of r) (rest_of r) a
      (up_to_moved before w rest (budget_at h r) 12 12 a (reaches_less before w rest at _ a most_groups (omega (arith, q.few, q.above, q.near)) e)) λ c b e₂.
      releases_in_a_window k (r + 1) (set l r c) b
      (reaches_less before w rest at _ b _ (omega (arith, q.few, q.above, q.near, (bounded (budget_at h r) 12 12 w a c b e₂).no_more, spelt_few most_groups c)) e)

  pub slot_in_a_window : (l : List ℕ) (at : ℕ) → h.count ≤ most_rows → Reaches w rest at slot_reach
      → slot h l (before ++ (w ++ rest)) (length before + at) ≡ moved (length before) (slot h l w at)
  unfolding slot
  slot_in_a_window l at few e =
      let all : ℕ → Reader (List ℕ) = λ k. releases h k 0 l in
      then_moved before w rest number number all all at (number_moved before w rest at (reaches_less before w rest at slot_reach at most_groups (omega arith) e)) λ k a e₁.
      releases_in_a_window k 0 l a
      (reaches_less before w rest at _ a _ (omega (arith, (taken most_groups at 0 w at k a (omega arith) e₁).no_more, spelt_few most_groups k)) e)

  -- so of the promise: where the sheet is legal, the place is so much further on
  pub read_slot_in_a_window : (at : ℕ) → legal h ≡ true → Reaches w rest at slot_reach
      → read_slot h (before ++ (w ++ rest)) (length before + at) ≡ moved_answer (length before) (read_slot h w at)
  unfolding moved_by moved
  read_slot_in_a_window at fine e =
      read_slot_is h (before ++ (w ++ rest)) (length before + at) fine
      ∙ ap slot_handed (slot_in_a_window (no_releases most_rows) at (legal_is h fine).at_most_rows e)
      ∙ go (slot h (no_releases most_rows) w at)
      ∙ ap (moved_answer (length before)) (sym (read_slot_is h w at fine))
    where
      go : (x : Step (List ℕ)) → slot_handed (moved (length before) x) ≡ moved_answer (length before) (slot_handed x)
      go (ok l n) = refl
      go (refuse k p) = refl

-- and where it is not, the answer is the same whatever the bytes are
pub ten_in_any_window : (h : Sheet) (s t : List ℕ) (at n : ℕ) → legal h ≡ false → read_slot h s at ≡ read_slot h t n
unfolding read_slot
ten_in_any_window h s t at n e =
    ap (λ (b : Bool). slot_handed (pick b (slot h (no_releases most_rows) s at) (refuse 10 0))) e
    ∙ ap (λ (b : Bool). slot_handed (pick b (slot h (no_releases most_rows) t n) (refuse 10 0))) (sym e)
