-- What reading into a lent list and writing into a lent buffer answer, and what they leave there.
use Rattle.std.specs.Prelude.{Result, Ok, Err}
use Rattle.basis.specs.Prelude.{ℕ, List, length, sets, leb}
use Rattle.basis.specs.Words.{pick}
use Rattle.basis.specs.Refusals.{Outcome, accepted, refused, refused_by}
use Rattle.basis.specs.declared.refusal.Refusal.{Refusal}

-- The buffer with these bytes from a place on, as far as there is room; all else in it is as it was.
abbrev pub stored_at : List ℕ → ℕ → List ℕ → List ℕ
stored_at l at xs = sets l at xs

-- The outcome, how many slots or bytes, and the list or the buffer that was lent, as it is left.
pub record Answer : Type 0 where
  pub outcome : Outcome
  pub count : ℕ
  pub lent : List ℕ

abbrev pub answer : Outcome → ℕ → List ℕ → Answer
answer o count lent = record { outcome = o; count = count; lent = lent }

-- What an answer that counts stands for, with the list or the buffer that was lent; beside a refusal nothing is counted.
abbrev pub written_told : Result ℕ Refusal → List ℕ → Answer
written_told (Ok long) out = answer accepted long out
written_told (Err r) out = answer (refused_by r) 0 out

-- Refused: nothing is counted, and nothing is written.
abbrev pub nothing_by : Outcome → List ℕ → Answer
nothing_by o l = answer o 0 l

-- So many, and these are written at the front where there is room; 15 where there is not. What is past them stays.
abbrev pub put_all : ℕ → List ℕ → List ℕ → Answer
put_all k xs l = pick (leb (length xs) (length l)) (answer accepted k (sets l 0 xs)) (nothing_by (refused 15 0) l)

-- What was written into a buffer, after the checks.
abbrev pub written_by : Outcome → List ℕ → List ℕ → Answer
written_by accepted w out = put_all (length w) w out
written_by (refused number place) w out = nothing_by (refused number place) out
