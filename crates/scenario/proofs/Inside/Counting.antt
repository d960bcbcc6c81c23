-- The loop that counts the slots of a scenario. Assumes nothing.
use Rattle.basis.specs.Prelude.{ℕ, zero, suc, ◌+◌, ◌-◌, ◌≤◌, ◌<◌, ◌≡◌, refl, sym, ap, ◌∙◌, List, arith, length}
use Rattle.std.specs.Prelude.{Ok}
use Rattle.scenario.proofs.Names.{Counted, Step, after, ok, refuse, map_step, map_step_no, map_step_ok, Held, no_releases, slot_before, slot, slots, Sheet}
use Rattle.scenario.proofs.Inside.OneSlot.{slot_goes, slot_no, slot_yes, slots_one, slots_no, slots_end}

-- the number of slots
abbrev slots_of : Held → ℕ
slots_of x = x.slots

-- slots that were counted, and those still to be
abbrev added : ℕ → Step ℕ → Step ℕ
added k (ok j n) = ok (k + j) n
added k (refuse i p) = refuse i p

added_none : (x : Step ℕ) → x ≡ added 0 x
added_none (ok j n) = ap (λ (k : ℕ). ok k n) (omega arith)
added_none (refuse i p) = refl

added_one : (k : ℕ) (l : List ℕ) (x : Step Held) → added k (map_step slots_of (after x (λ y n. ok (slot_before l y) n))) ≡ added (k + 1) (map_step slots_of x)
unfolding map_step
added_one k l (ok y n) = ap (λ (j : ℕ). ok j n) (omega arith)
added_one k l (refuse i p) = refl

-- the count so far, and the slots still to be counted
pub record Counting (h : Sheet) (s : List ℕ) (next count : ℕ) : Type 0 where
  pub fuel : ℕ
  pub enough : length s ≤ next + fuel
  pub few : count ≤ next
  pub so_far : map_step slots_of (slots h (length s) s 4) ≡ added count (map_step slots_of (slots h fuel s next))

pub none_counted : (h : Sheet) (s : List ℕ) → Counting h s 4 0
none_counted h s = record { fuel = length s; enough = omega arith; few = omega arith; so_far = added_none (map_step slots_of (slots h (length s) s 4)) }

module _ (h : Sheet) (s : List ℕ) (next count : ℕ) (w : Counting h s next count) where
  pub all_counted_lem : length s ≤ next → ok count next ≡ map_step slots_of (slots h (length s) s 4)
  unfolding map_step
  all_counted_lem b =
      let z : count + 0 ≡ count = omega arith in
      sym (w.so_far ∙ ap (λ (x : Step Held). added count (map_step slots_of x)) (slots_end h w.fuel s next b) ∙ ap (λ (k : ℕ). ok k next) z)

  pub counted : length s ≤ next → Counted (slots h (length s) s 4) (Ok count)
  counted b = let (y, q, k) = map_step_ok slots_of (slots h (length s) s 4) (sym (all_counted_lem b)) in (y, next, q, k)

  module _ (b : next < length s) (l : List ℕ) where
    pub count_no : (k p : ℕ) → slot h l s next ≡ refuse k p → slots h (length s) s 4 ≡ refuse k p
    unfolding map_step
    count_no k p g = go w.fuel w.enough w.so_far
      where
        none : slot h (no_releases h.count) s next ≡ refuse k p
        none = slot_no h l (no_releases h.count) s next k p g

        go : (f : ℕ) → length s ≤ next + f → map_step slots_of (slots h (length s) s 4) ≡ added count (map_step slots_of (slots h f s next)) → slots h (length s) s 4 ≡ refuse k p
        go zero m q = absurd (omega arith)
        go (suc f) m q = map_step_no slots_of (slots h (length s) s 4) (q ∙ ap (λ (x : Step Held). added count (map_step slots_of x)) (slots_no h f s next k p b none))

    module _ (l' : List ℕ) (a : ℕ) (g : slot h l s next ≡ ok l' a) where
      one : (x : List ℕ) × (slot h (no_releases h.count) s next ≡ ok x a)
      one = slot_yes h l (no_releases h.count) s next l' a g

      count_goes : next < a
      count_goes = (slot_goes h (no_releases h.count) s next one.0 a one.1).0

      pub count_more : Counting h s a (count + 1)
      count_more = go w.fuel w.enough w.so_far
        where
          go : (f : ℕ) → length s ≤ next + f → map_step slots_of (slots h (length s) s 4) ≡ added count (map_step slots_of (slots h f s next)) → Counting h s a (count + 1)
          go zero m q = absurd (omega arith)
          go (suc f) m q = record {
            fuel = f;
            enough = omega (arith, count_goes);
            few = omega (arith, count_goes, w.few);
            so_far =
                q ∙ ap (λ (z : Step Held). added count (map_step slots_of z)) (slots_one h f s next one.0 a b one.1)
                ∙ added_one count one.0 (slots h f s a);
          }

      pub count_less : length s - a < length s - next
      count_less = omega (arith, count_goes)
