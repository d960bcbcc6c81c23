-- The loop that fills the front of a list, which is zero, with the slots of a scenario. Assumes nothing.
use borrow.Rule.Slice.PartMut.{put_mid}
use Rattle.basis.specs.Prelude.{ℕ, zero, suc, ◌+◌, ◌-◌, ◌≤◌, ◌<◌, ◌≡◌, rules, refl, sym, subst, ap, ap₂, ◌∙◌, List, [], ◌++◌, append-nil, append_assoc, arith, length, take, take_all, take_at, take-append-drop, drop, drop_at, drop_of_length-le, length-append, length-drop, length-replicate, replicate-append-replicate}
use Rattle.std.specs.Prelude.{Result, Ok, Err, IsOk}
use Rattle.scenario.proofs.Names.{Refusal, Landed, never_ok, ok_same, Step, ok, refuse, map_step, Held, no_releases, slot_before, slot, slots, Fills, fill_by, Sheet}
use Rattle.scenario.proofs.Inside.OneSlot.{slot_goes, slot_onto, slots_end, slots_apart}

-- the slots so far stand at the front of the list, and then zeros for those still to be read
pub record Filling (h : Sheet) (s l₀ l : List ℕ) (next base : ℕ) : Type 0 where
  pub fuel : ℕ
  pub enough : length s ≤ next + fuel
  pub rest : Held
  pub end : ℕ
  pub left : slots h fuel s next ≡ ok rest end
  pub done : List ℕ
  pub long : length done ≡ base
  pub past : List ℕ
  pub list : l ≡ done ++ (no_releases (length rest.entries) ++ past)
  pub whole : fill_by (slots h (length s) s 4) l₀ ≡ done ++ (rest.entries ++ past)

pub none_filled : (h : Sheet) (s l : List ℕ) → Fills (slots h (length s) s 4) l → Filling h s l l 4 0
none_filled h s l f = go (slots h (length s) s 4) refl f
  where
    go : (x : Step Held) → slots h (length s) s 4 ≡ x → Fills x l → Filling h s l l 4 0
    go (ok x n) e g = record {
      fuel = length s;
      enough = omega arith;
      rest = x;
      end = n;
      left = e;
      done = [];
      long = refl;
      past = drop (length x.entries) l;
      list = sym (take-append-drop (length x.entries) l) ∙ ap (λ (z : List ℕ). z ++ drop (length x.entries) l) g;
      whole = ap (λ (z : Step Held). fill_by z l) e;
    }
    go (refuse k p) e g = absurd g

module _ (h : Sheet) (s l₀ l : List ℕ) (next base : ℕ) (w : Filling h s l₀ l next base) where
  pub all_filled : length s ≤ next → l ≡ fill_by (slots h (length s) s 4) l₀
  all_filled b =
      let (er, _) = ok_same (sym (slots_end h w.fuel s next b) ∙ w.left) in
      w.list ∙ ap (λ (x : Held). w.done ++ (no_releases (length x.entries) ++ w.past)) (sym er)
      ∙ sym (w.whole ∙ ap (λ (x : Held). w.done ++ (x.entries ++ w.past)) (sym er))

  -- the slot that is next
  record Next : Type 0 where
    fuel : ℕ
    enough : length s ≤ next + suc fuel
    entries : List ℕ
    to : ℕ
    slot_is : slot h (no_releases h.count) s next ≡ ok entries to
    others : Held
    others_are : slots h fuel s to ≡ ok others w.end
    joined : slot_before entries others ≡ w.rest

  slot_next : next < length s → Next
  slot_next b = go w.fuel w.enough w.left
    where
      go : (f : ℕ) → length s ≤ next + f → slots h f s next ≡ ok w.rest w.end → Next
      go zero m q = absurd (omega arith)
      go (suc f) m q =
          slots_apart h f s next b q λ x to y e₁ e₂ er.
          record { fuel = f; enough = m; entries = x; to = to; slot_is = e₁; others = y; others_are = e₂; joined = er }

  slot_long : (x : Next) → length x.entries ≡ h.count
  slot_long x = (slot_goes h (no_releases h.count) s next x.entries x.to x.slot_is).1 ∙ length-replicate h.count 0

  joined_long : (x : Next) → h.count + length x.others.entries ≡ length w.rest.entries
  joined_long x = omega (arith, slot_long x, length-append x.entries x.others.entries, ap (λ (z : Held). length z.entries) x.joined)

  -- what stands past the slot
  abbrev onward : Next → List ℕ
  onward x = no_releases (length x.others.entries) ++ w.past

  -- what is lent to it: its zeros, and what stands past it
  abbrev lent : List ℕ
  lent = take (length l - base) (drop base l)

  lent_is : (x : Next) → lent ≡ no_releases h.count ++ onward x
  lent_is x =
      take_all (length l - base) (drop base l) (omega (arith, length-drop base l))
      ∙ ap (drop base) w.list ∙ drop_at w.done (no_releases (length w.rest.entries) ++ w.past) base w.long
      ∙ ap (λ (k : ℕ). no_releases k ++ w.past) (sym (joined_long x))
      ∙ ap (λ (z : List ℕ). z ++ w.past) (sym (replicate-append-replicate h.count (length x.others.entries) 0))
      ∙ append_assoc (no_releases h.count) (no_releases (length x.others.entries)) w.past

  list_long : length l ≡ base + (length w.rest.entries + length w.past)
  list_long =
      omega (arith, w.long, ap length w.list, length-append w.done (no_releases (length w.rest.entries) ++ w.past), length-append (no_releases (length w.rest.entries)) w.past, length-replicate {A = ℕ} (length w.rest.entries) 0)

  module _ (b : next < length s) where
    pub slot_room : (n : ℕ) → n ≡ h.count → length l ≡ length l₀ → base + n ≤ length l₀
    slot_room n en same = let x = slot_next b in omega (arith, joined_long x, list_long)

    pub lent_room : h.count ≤ length lent
    lent_room = let x = slot_next b in omega (arith, ap length (lent_is x), length-append (no_releases h.count) (onward x), length-replicate {A = ℕ} h.count 0)

    slot_there : (x : Next) → slot h lent s next ≡ ok (x.entries ++ onward x) x.to
    unfolding map_step
    slot_there x =
        ap (λ (z : List ℕ). slot h z s next) (lent_is x)
        ∙ sym (slot_onto h (no_releases h.count) (onward x) s next (omega (arith, length-replicate {A = ℕ} h.count 0)))
        ∙ ap (map_step (λ (z : List ℕ). z ++ onward x)) x.slot_is

    -- it is not refused
    pub fill_never : (l' : List ℕ) (r : Result ℕ Refusal) → Landed (slot h lent s next) r l' → IsOk r
    fill_never l' (Ok n) e = search rules
    fill_never l' (Err x) e = absurd (never_ok e (slot_there (slot_next b)))

    module _ (l' : List ℕ) (r : Result ℕ Refusal) (e : Landed (slot h lent s next) r l') (a : ℕ) (ea : r ≡ Ok a) where
      g : slot h lent s next ≡ ok l' a
      g = subst (λ (x : Result ℕ Refusal). Landed (slot h lent s next) x l') ea e

      same_slot : (x : Next) → (x.entries ++ onward x ≡ l') × (x.to ≡ a)
      same_slot x = ok_same (sym (slot_there x) ∙ g)

      fill_goes : next < a
      fill_goes = let x = slot_next b in omega (arith, (same_slot x).1, (slot_goes h (no_releases h.count) s next x.entries x.to x.slot_is).0)

      pub fill_less : length s - a < length s - next
      fill_less = omega (arith, fill_goes)

      put_there : (x : Next) → put_mid base (length l - base) l l' ≡ (w.done ++ x.entries) ++ onward x
      put_there x =
          let before : take base l ≡ w.done = ap (take base) w.list ∙ take_at w.done (no_releases (length w.rest.entries) ++ w.past) base w.long in
          let beyond : drop (length l - base) (drop base l) ≡ [] = drop_of_length-le (drop base l) {i = length l - base} (omega (arith, length-drop base l)) in
          ap₂ (λ (u : List ℕ) (v : List ℕ). u ++ (l' ++ v)) before beyond
          ∙ ap (λ (z : List ℕ). w.done ++ z) (append-nil l' ∙ sym (same_slot x).0)
          ∙ sym (append_assoc w.done x.entries (onward x))

      pub fill_more : (n : ℕ) → n ≡ h.count → Filling h s l₀ (put_mid base (length l - base) l l') a (base + n)
      fill_more n en =
          let x = slot_next b in
          record {
            fuel = x.fuel;
            enough = omega (arith, x.enough, fill_goes);
            rest = x.others;
            end = w.end;
            left = ap (slots h x.fuel s) (sym (same_slot x).1) ∙ x.others_are;
            done = w.done ++ x.entries;
            long = omega (arith, length-append w.done x.entries, slot_long x, w.long);
            past = w.past;
            list = put_there x;
            whole =
                w.whole ∙ ap (λ (z : Held). w.done ++ (z.entries ++ w.past)) (sym x.joined)
                ∙ ap (λ (z : List ℕ). w.done ++ z) (append_assoc x.entries x.others.entries w.past)
                ∙ sym (append_assoc w.done x.entries (x.others.entries ++ w.past));
          }
