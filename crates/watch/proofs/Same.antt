-- Equal answers: two answers, lists and buffers that a promise allows are the same. Assumes nothing.
use Rattle.basis.specs.Prelude.{ℕ, ◌≡◌, List}
use Rattle.basis.proofs.Same.{same, pair_same}
use Rattle.watch.proofs.Names.{outcome, outcome_one_to_one, sheet_in, play_answer, played_slot, end_line, refused_file, written, line_buffer, File}
use Rattle.watch.specs.declared.play.Played.{Played}

-- `play_slot`: the answer, and the state's list and the buffer after it
pub played_one_to_one : (a b : Played) (l m x y : List ℕ) → play_answer (outcome a.ended) l (x, a.long) ≡ play_answer (outcome b.ended) m (y, b.long) → (a ≡ b) × (l ≡ m) × (x ≡ y)
played_one_to_one a b l m x y e =
    let r = outcome_one_to_one a.ended b.ended (λ i. (e i).outcome) in (λ i. record { ended = r i; long = (e i).long }, λ i. (e i).state, λ i. (e i).text)

pub play_slot_same : (sheet list rel : List ℕ) (k : ℕ) (buffer : List ℕ) (a b : Played) (l m x y : List ℕ)
    → play_answer (outcome a.ended) l (x, a.long) ≡ played_slot (sheet_in sheet) list rel k buffer → play_answer (outcome b.ended) m (y, b.long) ≡ played_slot (sheet_in sheet) list rel k buffer
    → (a ≡ b) × (l ≡ m) × (x ≡ y)
play_slot_same sheet list rel k buffer a b l m x y e f = played_one_to_one a b l m x y (same (played_slot (sheet_in sheet) list rel k buffer) _ _ e f)

module _ (buffer a b : List ℕ) (n m : ℕ) where
  -- `write_end`
  pub write_end_same : (slots : ℕ) → (a, n) ≡ written (end_line slots) buffer → (b, m) ≡ written (end_line slots) buffer → (a ≡ b) × (n ≡ m)
  write_end_same slots = pair_same (written (end_line slots) buffer) a b n m

  -- `write_refused`
  pub write_refused_same : (file : File) (number place : ℕ) → (a, n) ≡ written (refused_file file number place) buffer → (b, m) ≡ written (refused_file file number place) buffer → (a ≡ b) × (n ≡ m)
  write_refused_same file number place = pair_same (written (refused_file file number place) buffer) a b n m

-- `line_buffer`
pub line_buffer_same : (a b : List ℕ) → a ≡ line_buffer → b ≡ line_buffer → a ≡ b
line_buffer_same = same line_buffer
