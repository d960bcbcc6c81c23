-- What the calls that read a scenario and those that write answer, from the answers of what they call. Assumes nothing.
use Rattle.basis.specs.Prelude.{ℕ, ◌≤◌, ◌≡◌, refl, sym, Bool, true, false, List, arith, length, leb, sets}
use Rattle.exports.proofs.Names.{pick, Outcome, accepted, refused, told, lent_told}
use Rattle.std.specs.Prelude.{Result, Ok, Err, MatchResult}
use Rattle.basis.specs.Lent.{Answer, answer, nothing_by, put_all, written_by, written_told}
use Rattle.basis.specs.Refusals.{outcome, refused_by}
use Rattle.basis.specs.declared.refusal.Refusal.{Refusal}

-- what is found by a call that reads into a lent list or writes into a lent buffer is told, or its refusal is
pub found_is_told : (a : Result ℕ Refusal) (after : List ℕ) (x : Answer) → written_told a after ≡ x → (r : Result (Unit {0}) Refusal) (found now : ℕ)
    → MatchResult a (λ v. (outcome r ≡ accepted) × (now ≡ v)) (λ e. (outcome r ≡ refused_by e) × (now ≡ found)) → (t : ℕ × ℕ) → t ≡ told (outcome r)
    → (t, (now, after)) ≡ lent_told x found
found_is_told (Ok v) after x e r found now (er, en) t f = rw (f, er, en, sym e)
found_is_told (Err q) after x e r found now (er, en) t f = rw (f, er, en, sym e)

-- what is put where there is room is told, or nothing is changed
pub put_kept : (k : ℕ) (xs l : List ℕ) (found : ℕ) → ((lent_told (put_all k xs l) found).0.0 ≡ 0 → ⊥) → (lent_told (put_all k xs l) found).1 ≡ (found, l)
put_kept k xs l found n = go (leb (length xs) (length l)) n
  where
    go : (t : Bool) → ((lent_told (pick t (answer accepted k (sets l 0 xs)) (nothing_by (refused 15 0) l)) found).0.0 ≡ 0 → ⊥)
        → (lent_told (pick t (answer accepted k (sets l 0 xs)) (nothing_by (refused 15 0) l)) found).1 ≡ (found, l)
    go true m = absurd (m refl)
    go false m = refl

pub written_left : (o : Outcome) (w out : List ℕ) (found : ℕ) → ((lent_told (written_by o w out) found).0.0 ≡ 0 → ⊥) → (lent_told (written_by o w out) found).1 ≡ (found, out)
written_left accepted w out found n = put_kept (length w) w out found n
written_left (refused a b) w out found n = refl

-- where 0 is told, and no refusal has that number, nothing is refused
pub told_zero_lem : (o : Outcome) → ((k p : ℕ) → o ≡ refused k p → 1 ≤ k) → (told o).0 ≡ 0 → o ≡ accepted
told_zero_lem accepted f e = refl
told_zero_lem (refused k p) f e = absurd (omega (arith, f k p refl))
