-- The slots of a scenario are what the reader of one slot answers, one after another up to the end of the bytes. Assumes nothing.
use Rattle.basis.specs.Prelude.{ℕ, zero, suc, ◌<◌, ◌≡◌, refl, sym, ap, ◌∙◌, true, List, ⊎_elim, arith, length, take, lt-ltb, le-ltb}
use Rattle.scenario.proofs.Names.{lt_or_le, most_rows, Step, after, ok, refuse, begins, map_step, Outcome, accepted, refused, pick, FoundSlot, slot_handed, read_slot, Held, mark_bytes, no_releases, slot_before, scenario, slot, slots, slot_by_slot, slot_then, legal_is, legal, Sheet}
use Rattle.scenario.proofs.Inside.OneSlot.{slot_goes, slot_front, read_slot_is, scenario_is}

-- an accepted slot takes a byte or more
pub slot_goes_on : (h : Sheet) (s : List ℕ) (at : ℕ) → legal h ≡ true → (read_slot h s at).outcome ≡ accepted → at < (read_slot h s at).next
slot_goes_on h s at fine e = rw (read_slot_is h s at fine) (go (slot h (no_releases most_rows) s at) refl (rw (read_slot_is h s at fine) at e))
  where
    go : (x : Step (List ℕ)) → slot h (no_releases most_rows) s at ≡ x → (slot_handed x).outcome ≡ accepted → at < (slot_handed x).next
    go (ok l n) q f = (slot_goes h (no_releases most_rows) s at l n q).0
    go (refuse k p) q f = let z : ◌≡◌ {A = ℕ} 0 1 = cc in absurd (omega arith)

module _ (h : Sheet) (fine : legal h ≡ true) where
  -- where bytes are left, the slots are the next one, and then the others
  slot_first : (f : ℕ) (s : List ℕ) (at : ℕ) → at < length s
      → slots h (suc f) s at ≡ slot_then h.count (read_slot h s at).outcome (read_slot h s at).entries (slots h f s (read_slot h s at).next)
  unfolding slots slot_then map_step
  slot_first f s at b =
      simp (lt-ltb at (length s) b)
      (ap (λ (x : Step (List ℕ)). after x others) (sym (slot_front h s at (legal_is h fine).at_most_rows)) ∙ go (slot h (no_releases most_rows) s at)
      ∙ ap (λ (a : FoundSlot). slot_then h.count a.outcome a.entries (slots h f s a.next)) (sym (read_slot_is h s at fine)))
    where
      others : List ℕ → ℕ → Step Held
      others l m = after (slots h f s m) (λ x n. ok (slot_before l x) n)

      go : (x : Step (List ℕ)) → after (map_step (take h.count) x) others
          ≡ slot_then h.count (slot_handed x).outcome (slot_handed x).entries (slots h f s (slot_handed x).next)
      go (ok l n) = refl
      go (refuse k p) = refl

  -- so where it is accepted it stands before the others, and where it is refused that is all
  pub slot_before_others : (f : ℕ) (s : List ℕ) (at : ℕ) → at < length s → (read_slot h s at).outcome ≡ accepted
      → slots h (suc f) s at ≡ after (slots h f s (read_slot h s at).next) (λ x n. ok (slot_before (take h.count (read_slot h s at).entries) x) n)
  unfolding slot_then
  slot_before_others f s at b e =
      slot_first f s at b ∙ ap (λ (o : Outcome). slot_then h.count o (read_slot h s at).entries (slots h f s (read_slot h s at).next)) e

  pub refused_slot_decides : (f : ℕ) (s : List ℕ) (at k p : ℕ) → at < length s → (read_slot h s at).outcome ≡ refused k p → slots h (suc f) s at ≡ refuse k p
  unfolding slot_then
  refused_slot_decides f s at k p b e =
      slot_first f s at b ∙ ap (λ (o : Outcome). slot_then h.count o (read_slot h s at).entries (slots h f s (read_slot h s at).next)) e

  -- the same all the way to the end
  pub slots_one_by_one : (f : ℕ) (s : List ℕ) (at : ℕ) → slots h f s at ≡ slot_by_slot h f s at
  unfolding slots slot_by_slot
  slots_one_by_one zero s at = refl
  slots_one_by_one (suc f) s at =
      ⊎_elim
      (λ b.
      slot_first f s at b
      ∙ simp (lt-ltb at (length s) b) (ap (slot_then h.count (read_slot h s at).outcome (read_slot h s at).entries) (slots_one_by_one f s (read_slot h s at).next)))
      (λ b. simp (le-ltb at (length s) b)) (lt_or_le at (length s))

  -- a scenario: the mark, and from place 4 on slot by slot
  pub scenario_one_by_one : (s : List ℕ) → scenario h s 0 ≡ pick (begins mark_bytes s) (slot_by_slot h (length s) s 4) (refuse 1 0)
  scenario_one_by_one s = scenario_is h s ∙ ap (λ (x : Step Held). pick (begins mark_bytes s) x (refuse 1 0)) (slots_one_by_one (length s) s 4)
