-- Laws of what a writer answers: what it has done where it accepts, what it refuses by, and equal answers. Assumes nothing.
use Rattle.std.specs.Prelude.{Result, Ok, Err}
use Rattle.basis.specs.Prelude.{ℕ, ◌≤◌, ◌≡◌, refl, ap, ◌∙◌, Bool, true, false, List, arith, length, take, sets, leb, leb-true, le-leb}
use Rattle.basis.specs.Words.{pick}
use Rattle.basis.specs.Refusals.{Outcome, accepted, refused, refused_by}
use Rattle.basis.specs.Lent.{Answer, answer, stored_at, written_told, nothing_by, put_all, written_by}
use Rattle.basis.specs.declared.refusal.Refusal.{Refusal}
use Rattle.basis.proofs.Refusals.{refused_by_one_to_one}
use Rattle.basis.proofs.Same.{same}
use Rattle.basis.proofs.Inside.Stores.{sets_front}

-- `put_bytes`
pub put_bytes_same : (l : List ℕ) (at : ℕ) (xs a b : List ℕ) → a ≡ stored_at l at xs → b ≡ stored_at l at xs → a ≡ b
put_bytes_same l at xs = same (stored_at l at xs)

-- an answer stands for one value of the code, and for one buffer
pub written_same : (x : Answer) (a b : Result ℕ Refusal) (m n : List ℕ) → written_told a m ≡ x → written_told b n ≡ x → (a ≡ b) × (m ≡ n)
written_same x (Ok j) (Ok k) m n e f = let g = same x (written_told (Ok j) m) (written_told (Ok k) n) e f in (ap Ok (λ i. (g i).count), λ i. (g i).lent)
written_same x (Ok j) (Err s) m n e f = let z : accepted ≡ refused_by s = λ i. (same x (written_told (Ok j) m) (written_told (Err s) n) e f i).outcome in cc
written_same x (Err r) (Ok k) m n e f = let z : refused_by r ≡ accepted = λ i. (same x (written_told (Err r) m) (written_told (Ok k) n) e f i).outcome in cc
written_same x (Err r) (Err s) m n e f = let g = same x (written_told (Err r) m) (written_told (Err s) n) e f in (ap Err (refused_by_one_to_one r s (λ i. (g i).outcome)), λ i. (g i).lent)

module _ (k : ℕ) (xs l : List ℕ) where
  -- where there is room
  pub put_where_room : length xs ≤ length l → put_all k xs l ≡ answer accepted k (sets l 0 xs)
  put_where_room r = ap (λ (t : Bool). pick {A = Answer} t (answer accepted k (sets l 0 xs)) (nothing_by (refused 15 0) l)) (le-leb (length xs) (length l) r)

  -- accepted: there was room
  pub put_accepted : (put_all k xs l).outcome ≡ accepted → length xs ≤ length l
  put_accepted e = go (leb (length xs) (length l)) refl e
    where
      go : (t : Bool) → leb (length xs) (length l) ≡ t → (pick {A = Answer} t (answer accepted k (sets l 0 xs)) (nothing_by (refused 15 0) l)).outcome ≡ accepted → length xs ≤ length l
      go true q f = leb-true _ _ q
      go false q f = let z : ◌≡◌ {A = ℕ} 0 1 = cc in absurd (omega arith)

  -- refused: by 15 at 0
  pub put_refused : (a b : ℕ) → (put_all k xs l).outcome ≡ refused a b → (a ≡ 15) × (b ≡ 0)
  put_refused a b e = go (leb (length xs) (length l)) e
    where
      go : (t : Bool) → (pick {A = Answer} t (answer accepted k (sets l 0 xs)) (nothing_by (refused 15 0) l)).outcome ≡ refused a b → (a ≡ 15) × (b ≡ 0)
      go true q = let z : ◌≡◌ {A = ℕ} 0 1 = cc in absurd (omega arith)
      go false q = (cc, cc)

-- what a writer that accepts has done: nothing was refused before, there was room, and the bytes stand at the front
pub record Wrote (o : Outcome) (w out : List ℕ) : Type 0 where
  pub checked : o ≡ accepted
  pub room : length w ≤ length out
  pub told : written_by o w out ≡ answer accepted (length w) (sets out 0 w)
  pub bytes : take (written_by o w out).count (written_by o w out).lent ≡ w

pub wrote : (o : Outcome) (w out : List ℕ) → (written_by o w out).outcome ≡ accepted → Wrote o w out
wrote accepted w out e =
    let r = put_accepted (length w) w out e in
    let t = put_where_room (length w) w out r in
    record { checked = refl; room = r; told = t; bytes = ap (λ (a : Answer). take a.count a.lent) t ∙ sets_front out w r }
wrote (refused a b) w out e = let z : ◌≡◌ {A = ℕ} 0 1 = cc in absurd (omega arith)

-- the checks are passed and there is room: all is written
pub written_whole : (o : Outcome) (w out : List ℕ) → o ≡ accepted → length w ≤ length out → written_by o w out ≡ answer accepted (length w) (sets out 0 w)
written_whole o w out e r = ap (λ (x : Outcome). written_by x w out) e ∙ put_where_room (length w) w out r

-- beside a refusal nothing is written, and nothing is counted
pub written_kept : (o : Outcome) (w out : List ℕ) (k p : ℕ) → (written_by o w out).outcome ≡ refused k p → ((written_by o w out).count ≡ 0) × ((written_by o w out).lent ≡ out)
written_kept accepted w out k p e = go (leb (length w) (length out)) e
  where
    go : (t : Bool) → (pick {A = Answer} t (answer accepted (length w) (sets out 0 w)) (nothing_by (refused 15 0) out)).outcome ≡ refused k p
        → ((pick {A = Answer} t (answer accepted (length w) (sets out 0 w)) (nothing_by (refused 15 0) out)).count ≡ 0) × ((pick {A = Answer} t (answer accepted (length w) (sets out 0 w)) (nothing_by (refused 15 0) out)).lent ≡ out)
    go true q = let z : ◌≡◌ {A = ℕ} 0 1 = cc in absurd (omega arith)
    go false q = (refl, refl)
written_kept (refused a b) w out k p e = (refl, refl)
