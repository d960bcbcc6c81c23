-- The ways out of the reader of a slot: a row, the releases one after another, and the slot. Assumes nothing.
use Rattle.basis.specs.Prelude.{ℕ, suc, ◌+◌, ◌-◌, ◌≤◌, ◌<◌, ◌≡◌, sym, ap, ◌∙◌, Bool, true, false, List, arith, set, lt-ltb, le-ltb}
use Rattle.std.specs.Prelude.{Err}
use Rattle.basis.specs.Refusals.{told}
use Rattle.basis.specs.declared.refusal.Refusal.TheVariants as refusals
use Rattle.numbers.specs.Numbers.{ranged}
use Rattle.numbers.proofs.Encoding.{ranged_is}
use Rattle.scenario.proofs.Names.{Landed, Refusal, Step, most_rows, legal, sheet_in, pick, ok, refuse, number, up_to, budget_at, no_releases, releases, row, slot, slot_handed, found_told, read_slot, Sheet}
use Rattle.scenario.proofs.Inside.OneSlot.{read_slot_is}

-- the ways out of `read_row`
module _ (n least : ℕ) (s : List ℕ) (at : ℕ) where
  pub row_none : (k p : ℕ) → refuse k p ≡ number s at → refuse k p ≡ row n least s at
  unfolding row
  row_none k p e = sym (simp (sym e))

  module _ (r m : ℕ) (e : ok r m ≡ number s at) where
    pub row_past : n ≤ r → refuse 14 at ≡ row n least s at
    unfolding row
    row_past h = sym (simp (sym e, le-ltb r n h))

    pub row_again : r < n → r < least → refuse 20 at ≡ row n least s at
    unfolding row
    row_again h l = sym (simp (sym e, lt-ltb r n h, lt-ltb r least l))

    pub row_read : r < n → least ≤ r → ok r m ≡ row n least s at
    unfolding row
    row_read h l = sym (simp (sym e, lt-ltb r n h, le-ltb r least l))

-- so many more, of which there is one
pub more_left : (h : Sheet) (s : List ℕ) (count i least : ℕ) (entries : List ℕ) (next : ℕ) → i < count → releases h (count - i) least entries s next ≡ releases h (suc (count - (i + 1))) least entries s next
more_left h s count i least entries next b = let e : count - i ≡ suc (count - (i + 1)) = omega arith in ap (λ (k : ℕ). releases h k least entries s next) e

pub none_left : (h : Sheet) (s : List ℕ) (count i least : ℕ) (entries : List ℕ) (next : ℕ) → count ≤ i → releases h (count - i) least entries s next ≡ ok entries next
unfolding releases
none_left h s count i least entries next b = let e : count - i ≡ 0 = omega arith in ap (λ (k : ℕ). releases h k least entries s next) e

-- one release of several more
module _ (h : Sheet) (s : List ℕ) (left least : ℕ) (entries : List ℕ) (next : ℕ) where
  pub no_row : (k p : ℕ) → refuse k p ≡ row h.count least s next → releases h (suc left) least entries s next ≡ refuse k p
  unfolding releases
  no_row k p e = simp (sym e)

  module _ (r a : ℕ) (e : ok r a ≡ row h.count least s next) (v : ℕ) (ev : v ≡ budget_at h r) where
    counted : (x : Step ℕ) → x ≡ ranged v (12, a) (12, a) s a → up_to (budget_at h r) 12 12 s a ≡ x
    counted x f = sym (f ∙ ranged_is v 12 12 s a ∙ ap (λ (k : ℕ). up_to k 12 12 s a) ev)

    amount_refused : (k p : ℕ) → refuse k p ≡ ranged v (12, a) (12, a) s a → releases h (suc left) least entries s next ≡ refuse k p
    unfolding releases
    amount_refused k p f = simp (sym e, counted (refuse k p) f)

    pub one_more : (c b : ℕ) → ok c b ≡ ranged v (12, a) (12, a) s a → releases h (suc left) least entries s next ≡ releases h left (r + 1) (set entries r c) s b
    unfolding releases
    one_more c b f = simp (sym e, counted (ok c b) f)

-- after some releases, one of too large an amount refuses all
module _ (h : Sheet) (s : List ℕ) (at count : ℕ) (l₀ entries : List ℕ) (next least left : ℕ) (so_far : releases h count 0 l₀ s at ≡ releases h left least entries s next) (pos : 0 < left) where
  pub no_amount_lem : (r a : ℕ) → ok r a ≡ row h.count least s next → (v : ℕ) → v ≡ budget_at h r → (x : Refusal)
      → refuse (told x).0 (told x).1 ≡ ranged v (12, a) (12, a) s a → Landed (releases h count 0 l₀ s at) (Err x) entries
  no_amount_lem r a e v ev x f =
      let one : left ≡ suc (left - 1) = omega (arith, pos) in
      so_far ∙ ap (λ (k : ℕ). releases h k least entries s next) one ∙ amount_refused h s (left - 1) least entries next r a e v ev (told x).0 (told x).1 f

-- the ways out of `slot_at`
module _ (h : Sheet) (l s : List ℕ) (at : ℕ) where
  pub slot_none : (k p : ℕ) → refuse k p ≡ number s at → slot h l s at ≡ refuse k p
  unfolding slot
  slot_none k p e = simp (sym e)

  pub slot_some : (k a : ℕ) → ok k a ≡ number s at → slot h l s at ≡ releases h k 0 l s a
  unfolding slot
  slot_some k a e = simp (sym e)

-- the ways out of `read_slot`
pub slot_illegal : (h : Sheet) (s : List ℕ) (at : ℕ) (r : Refusal) → (r ≡ refusals.Sheet) × (legal h ≡ false) → found_told (Err r) ≡ read_slot h s at
unfolding read_slot
slot_illegal h s at r (e, f) = ap (λ (x : Refusal). found_told (Err x)) e ∙ sym (ap (λ (b : Bool). slot_handed (pick b (slot h (no_releases most_rows) s at) (refuse 10 0))) f)

pub slot_legal : (l l₀ s : List ℕ) (at : ℕ) → (l ≡ l₀) × (legal (sheet_in l₀) ≡ true) → (x : Step (List ℕ)) → slot (sheet_in l) (no_releases most_rows) s at ≡ x → slot_handed x ≡ read_slot (sheet_in l₀) s at
slot_legal l l₀ s at (e, f) x g = ap slot_handed (sym g ∙ ap (λ (z : List ℕ). slot (sheet_in z) (no_releases most_rows) s at) e) ∙ sym (read_slot_is (sheet_in l₀) s at f)
