-- The text by what the reader says: the lines of the sheet, or the one line of a refusal. Assumes nothing.
use Rattle.basis.specs.Prelude.{ℕ, ◌≡◌, refl, ap, List}
use Rattle.dashboard.proofs.Names.{Outcome, accepted, refused, reading, no_verdict, own_label, board, text_of, verdict_text}

-- an accepted sheet prints its rows, and whether it holds
pub accepted_prints_its_rows : (s : List ℕ) → (reading s).0 ≡ accepted → verdict_text s ≡ board (own_label s) (reading s).1
unfolding verdict_text
accepted_prints_its_rows s e = ap (λ (o : Outcome). text_of s (o, (reading s).1)) e

-- a refused sheet prints one line, and no row
pub refused_prints_one_line : (s : List ℕ) (k p : ℕ) → (reading s).0 ≡ refused k p → verdict_text s ≡ no_verdict k p
unfolding verdict_text
refused_prints_one_line s k p e = ap (λ (o : Outcome). text_of s (o, (reading s).1)) e

pub by_outcome : {A : Type 0} (s : List ℕ) → ((reading s).0 ≡ accepted → A) → ((k p : ℕ) → (reading s).0 ≡ refused k p → A) → A
by_outcome {A} s f g = go (reading s).0 refl
  where
    go : (o : Outcome) → (reading s).0 ≡ o → A
    go accepted e = f e
    go (refused k p) e = g k p e
