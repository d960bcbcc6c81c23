-- A slot that was read from the bytes in a window ends among them. Assumes nothing.
use Rattle.std.specs.Prelude.{Ok}
use Rattle.basis.specs.Prelude.{ℕ, zero, suc, ◌+◌, ◌≤◌, ◌≡◌, refl, sym, ap, Bool, true, false, List, arith, length, set, take, length-take}
use Rattle.basis.specs.Limits.{most_groups, most_rows}
use Rattle.basis.specs.Readers.{Step, ok, refuse}
use Rattle.basis.specs.Refusals.{accepted, refused}
use Rattle.basis.specs.Words.{pick}
use Rattle.basis.proofs.Inside.Steps.{after_ok, ok_same}
use Rattle.numbers.specs.Numbers.{number, up_to}
use Rattle.numbers.proofs.Inside.Bounds.{bounded, taken}
use Rattle.sheet.specs.Legal.{legal}
use Rattle.sheet.specs.declared.row.Sheet.{Sheet}
use Rattle.scenario.specs.Form.{budget_at, no_releases, row, releases, slot}
use Rattle.scenario.specs.Answers.{FoundSlot, found_told, slot_handed, read_slot}
use Rattle.scenario.specs.declared.slot.SlotRead.{SlotRead}

releases_end : (h : Sheet) (k least : ℕ) (l s : List ℕ) (at : ℕ) (x : List ℕ) (n : ℕ) → at ≤ length s → releases h k least l s at ≡ ok x n → n ≤ length s
unfolding releases
releases_end h zero least l s at x n b e = let (_, en) = ok_same e in omega arith
releases_end h (suc k) least l s at x n b e =
    after_ok (row h.count least s at) _ e λ r a e₁ e₂.
    after_ok (up_to (budget_at h r) 12 12 s a) _ e₂ λ c m e₃ e₄.
    releases_end h k (r + 1) (set l r c) s m x n (bounded (budget_at h r) 12 12 s a c m e₃).in_bytes e₄

slot_end : (h : Sheet) (l s : List ℕ) (at : ℕ) (x : List ℕ) (n : ℕ) → slot h l s at ≡ ok x n → n ≤ length s
unfolding slot
slot_end h l s at x n e =
    after_ok (number s at) _ e λ k a e₁ e₂. releases_end h k 0 l s a x n (taken most_groups at 0 s at k a (omega arith) e₁).in_bytes e₂

module _ (h : Sheet) (s : List ℕ) (at : ℕ) (r : SlotRead) (e : found_told (Ok r) ≡ read_slot h s at) where
  -- the place after it
  pub ends_inside : r.next ≤ length s
  unfolding read_slot
  ends_inside = go (legal h) e
    where
      told : (x : Step (List ℕ)) → found_told (Ok r) ≡ slot_handed x → x ≡ slot h (no_releases most_rows) s at → r.next ≤ length s
      told (ok l n) g q = let en : r.next ≡ n = ap (λ (z : FoundSlot). z.next) g in omega (arith, slot_end h (no_releases most_rows) s at l n (sym q))
      told (refuse j i) g q = let f : accepted ≡ refused j i = ap (λ (z : FoundSlot). z.outcome) g in cc

      go : (t : Bool) → found_told (Ok r) ≡ slot_handed (pick t (slot h (no_releases most_rows) s at) (refuse 10 0)) → r.next ≤ length s
      go true g = told (slot h (no_releases most_rows) s at) g refl
      go false g = let f : accepted ≡ refused 10 0 = ap (λ (z : FoundSlot). z.outcome) g in cc

-- so it ends in the window
pub ends_in_window : (h : Sheet) (buffer : List ℕ) (at end : ℕ) (r : SlotRead) → found_told (Ok r) ≡ read_slot h (take end buffer) at → r.next ≤ end
ends_in_window h buffer at end r e = omega (arith, ends_inside h (take end buffer) at r e, length-take end buffer)
